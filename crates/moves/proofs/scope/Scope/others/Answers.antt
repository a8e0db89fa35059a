use Rattle.std.proofs.Common.{length, ap, arith}
use Rattle.terms.proofs.Standings.{standing}
use Rattle.terms.proofs.Steps.{opened}
use Rattle.moves.proofs.scope.Scope.others.Goals as goal

pub invariant_of-result : goal.invariant_of-result
invariant_of-result c =
    let s = standing c.args.self.trees.standing in
    let o = opened s.0 s.1 (λ e. omega (arith, e, c.requires.some)) in
    record { low = omega (arith, ap length c.others.ensures.cells, c.others.ensures.start, c.requires.ended o.ks o.first) }
