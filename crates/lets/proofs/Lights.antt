-- Lawful terms are light exactly where each of their cells is. Assumes nothing.
use Rattle.std.proofs.Common.{◌≡◌, ℕ, zero, suc, Bool, true, false, ◌&&◌, ◌||◌, eqb, List, ◌∷◌, replicate, sym, refl, ap, ◌∙◌, subst, arith}
use Rattle.std.specs.List.{list_all}
use Rattle.std.proofs.lemmas.Bool.Decides.{nat_tests}
use Rattle.std.proofs.lemmas.List.Folds.{list_all-append}
use Rattle.terms.specs.Cells.{kind, children}
use Rattle.terms.specs.Rows.{Row, flat}
use Rattle.terms.specs.Rows.Row.{none, node}
use Rattle.lets.specs.Syntax.{admits, kids, Lawful, light}
use Rattle.lets.specs.Syntax.Sort.{term}
use Rattle.lets.specs.Lightness.{light_cell, LightAsked}

-- a variable has no children
leaf : (c : ℕ) → admits term c ≡ true → kind c ≡ 0 → children c ≡ 0
unfolding admits
leaf c a k = grind (arith, nat_tests)

pub light_lawful : (n : ℕ) (t : Row) → Lawful (replicate n term) t → light t ≡ list_all light_cell (flat t)
unfolding kids
light_lawful zero none h = refl
light_lawful zero (node c ks r) h = absurd h
light_lawful (suc n) none h = absurd h
light_lawful (suc n) (node c ks r) h =
    let i = light_lawful (children c) ks h.1 in
    let j = light_lawful n r h.2 in
    let first : (eqb (kind c) 0 || (eqb (kind c) 32 || eqb (kind c) 34) && light ks) ≡ (light_cell c && list_all light_cell (flat ks)) = go (eqb (kind c) 0) refl ks h.1 i in
    ap (λ b. b && light r) first ∙ ap (λ b. (light_cell c && list_all light_cell (flat ks)) && b) j ∙ sym (list_all-append light_cell (c ∷ flat ks) (flat r))
  where
    no_kids : (ks : Row) → Lawful (replicate 0 term) ks → list_all light_cell (flat ks) ≡ true
    no_kids none h = refl
    no_kids (node c ks r) h = absurd h

    go : (b : Bool) → eqb (kind c) 0 ≡ b → (ks : Row) → Lawful (replicate (children c) term) ks → light ks ≡ list_all light_cell (flat ks) → (b || (eqb (kind c) 32 || eqb (kind c) 34) && light ks) ≡ ((b || (eqb (kind c) 32 || eqb (kind c) 34)) && list_all light_cell (flat ks))
    go true e ks l i =
        let k : kind c ≡ 0 = grind (arith, nat_tests) in
        let z = leaf c h.0 k in
        sym (no_kids ks (subst (λ m. Lawful (replicate m term) ks) z l))
    go false e ks l i = ap (λ b. (eqb (kind c) 32 || eqb (kind c) 34) && b) i

pub light_asked : (cells : List ℕ) (r : Bool) → r ≡ list_all light_cell cells → LightAsked cells r
light_asked cells r e n t h s = e ∙ ap (list_all light_cell) (sym s) ∙ sym (light_lawful n t h)
