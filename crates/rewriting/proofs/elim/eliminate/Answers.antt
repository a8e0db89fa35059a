use Rattle.std.proofs.Common.{◌-◌, refl, arith}
use Rattle.terms.specs.Rows.{down}
use Rattle.terms.specs.Rows.Row.{none}
use Rattle.terms.proofs.Bridge.{rename_size}
use Rattle.moves.proofs.Scopes.{fits}
use Rattle.lets.specs.Figure.{elim_let}
use Rattle.rewriting.proofs.Standings.{spelled_size}
use Rattle.rewriting.proofs.Sought.{not_free}
use Rattle.rewriting.proofs.Redexes.{spelling}
use Rattle.rewriting.proofs.Steps.{wrote_row}
use Rattle.rewriting.proofs.elim.eliminate.Goals as goal

pub returns-then-body-space : goal.returns-then-body-space
returns-then-body-space c = λ t h e.
    let p = c.in_ok-body.ensures t (h, e) in
    let no = not_free 0 0 0 p.0.e _ _ (c.occurs.ensures p.0.e (c.trees.ensures p.0.e (p.0.letters.1, p.2))) c.if-is_some.ensures in
    (refl, (down p.0.e, (p.0, no, tt, refl), omega (arith, spelled_size p.0.e p.2, rename_size (λ x. x - 1) 0 0 p.0.e)))

pub rename-requires-clause-room : goal.rename-requires-clause-room
rename-requires-clause-room c =
    let s = spelling c.args.redex.lawful in
    let p = c.in_ok-body.ensures s.row (s.lawful, s.reads) in
    fits (c.trees-2.ensures p.0.e (p.0.letters.1, p.2)) (omega (arith, spelled_size p.0.e p.2))

pub returns : goal.returns
returns c = λ t h e.
    let p = c.in_ok-body.ensures t (h, e) in
    let no = not_free 0 0 0 p.0.e _ _ (c.occurs.ensures p.0.e (c.trees.ensures p.0.e (p.0.letters.1, p.2))) c.if-is_some.ensures in
    wrote_row (elim_let none 0 t) _ _ (down p.0.e) (p.0, no, tt, refl) (c.rename.ensures p.0.e (c.trees-2.ensures p.0.e (p.0.letters.1, p.2)))
