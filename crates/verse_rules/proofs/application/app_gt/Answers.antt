use Rattle.std.proofs.Common.{[], ◌∷◌, refl, ap}
use Rattle.verse.specs.Syntax.{gt}
use Rattle.verse.specs.Lines.{Pair}
use Rattle.verse_rules.proofs.Makes.{written}
use Rattle.verse_rules.proofs.application.app_gt.Goals as goal

pub returns : goal.returns
returns c = λ t inner h e.
    let p = c.in_ok-m.ensures t h e in
    let m : Pair gt t = record { k₁ = c.in_ok-m.m; k₂ = c.in_ok-m.n; letters = (p.0, p.1); is = p.2 } in
    written _ _ _ _ c.give.ensures m (c.if-not-exceeds.ensures.0 refl) tt (ap (λ x. x ∷ []) c.integer_cell.ensures)
