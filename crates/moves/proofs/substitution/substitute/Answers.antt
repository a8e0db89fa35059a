use Rattle.std.proofs.Common.{sym, refl, subst, arith}
use Rattle.terms.specs.Forest.{Are}
use Rattle.terms.proofs.Standings.{standing}
use Rattle.moves.proofs.Calls.{shows_sizes}
use Rattle.moves.proofs.substitution.substitute.Goals as goal

pub returns-in_err-_left : goal.returns-in_err-_left
returns-in_err-_left c = λ t s a z.
    let e = c.outer-scope.ensures in
    let f = rw (e.above, e.last) at (c.in_err-_left.ensures t s (subst (λ x. Are x t) (sym e.same) a) (shows_sizes c.args.how s z)) in
    rw c.from_residual.ensures (refl, f)

pub substitute_scope-end-requires : goal.substitute_scope-end-requires
substitute_scope-end-requires c =
    let u = standing c.outer-scope.result.trees.standing in
    let q = c.requires in
    record { row = u.0; stands = u.1; s = q.0; shows = q.1; small = omega (arith, (c.in_ok-_left.ensures u.0 q.0 u.1 (shows_sizes c.args.how q.0 q.1)).1) }

pub returns : goal.returns
returns c = λ t s a z.
    let e = c.outer-scope.ensures in
    let f = c.substitute_scope-end.ensures t s (subst (λ x. Are x t) (sym e.same) a) z in
    rw (e.above, e.last) at f.wrote
