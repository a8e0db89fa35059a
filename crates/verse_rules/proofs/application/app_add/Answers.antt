use Rattle.std.proofs.Common.{[], ◌∷◌, subst, refl, ap, ◌∙◌}
use Rattle.terms.specs.Cells.{cell}
use Rattle.verse.specs.Syntax.{add}
use Rattle.calculus.specs.Written.{Written}
use Rattle.verse.specs.Lines.{Pair, sum, app_add}
use Rattle.verse_rules.proofs.Lawfuls.{erred, none_or}
use Rattle.verse_rules.specs.Tests.{Summed}
use Rattle.verse_rules.proofs.Makes.{written}
use Rattle.verse_rules.proofs.application.app_add.Goals as goal

pub returns-in_err-k : goal.returns-in_err-k
returns-in_err-k c = λ t inner h e.
    let p = c.in_ok-m.ensures t h e in
    let m : Pair add t = record { k₁ = c.in_ok-m.m; k₂ = c.in_ok-m.n; letters = (p.0, p.1); is = p.2 } in
    let w = c.in_err-k.ensures in
    let f = subst (Summed (sum m)) w.ok_part c.sum.ensures in
    erred (Written (app_add inner t) c.args.space.now c.args.space.now) _ _ c.from_residual-in_err-k.ensures.1 (none_or _ _ _ w.value w.ok_part) (refl, (m, tt, f))

pub returns : goal.returns
returns c = λ t inner h e.
    let p = c.in_ok-m.ensures t h e in
    let m : Pair add t = record { k₁ = c.in_ok-m.m; k₂ = c.in_ok-m.n; letters = (p.0, p.1); is = p.2 } in
    let s = subst (Summed (sum m)) c.in_ok-k.ensures.ok_part c.sum.ensures in
    written _ _ _ _ c.give.ensures m tt s.0 (ap (λ x. x ∷ []) (c.integer_cell.ensures ∙ ap (cell 1 0 0) s.1))
