use Rattle.std.proofs.Common.{rules, ◌≡◌, Some, refl, subst, arith}
use Rattle.moves.specs.Moved.{OneTerm}
use Rattle.terms.proofs.Bridge.{rename_size}
use Rattle.moves.proofs.Scopes.{fits}
use Rattle.moves.proofs.Calls.{term_size}
use Rattle.moves.proofs.rename_term.Goals as goal

pub returns-then-cells-space : goal.returns-then-cells-space
returns-then-cells-space c =
    let e : c.one_term.result ≡ Some c.in_ok-term.term = search rules in
    let (t, is, a) = subst (OneTerm c.args.cells.now) e c.one_term.ensures in
    (refl, (t, is, omega (arith, rename_size, term_size is)))

pub rename-requires-clause-room : goal.rename-requires-clause-room
rename-requires-clause-room c =
    let e : c.one_term.result ≡ Some c.in_ok-term.term = search rules in
    let (t, is, a) = subst (OneTerm c.args.cells.now) e c.one_term.ensures in
    fits a (omega (arith, term_size is))

pub returns : goal.returns
returns c =
    let e : c.one_term.result ≡ Some c.in_ok-term.term = search rules in
    let (t, is, a) = subst (OneTerm c.args.cells.now) e c.one_term.ensures in
    (t, is, c.rename.ensures t a)
