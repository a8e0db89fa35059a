-- The judge of the Verse calculus: a cell, and its children one by one.
use Rattle.std.proofs.Common.{◌≡◌, ℕ, zero, suc, ◌+◌, ◌<◌, ◌≤◌, max, true, false, List, [], ◌∷◌, ◌++◌, length, get_or, take, drop, sym, ap, ◌∙◌, subst, arith}
use Rattle.std.proofs.lemmas.List.{take_all, take-append-drop}
use Rattle.terms.specs.Cells.{kind, children}
use Rattle.terms.specs.Grammar.{Stuck, Lies}
use Rattle.terms.proofs.Judgings.{lies_in, lies_after, stuck_bad, stuck_in, stuck_front, stuck_after}
use Rattle.verse.specs.Syntax.{Sort, admits, kids}
use Rattle.verse.proofs.Meaning.{arity}
use Rattle.verse_terms.specs.Sorts.{child_sort}
use Rattle.verse_terms.proofs.Parts.{Nth}
use Rattle.verse_terms.proofs.Sites.{nth_sort}
use Rattle.verse_terms.proofs.Sorts.{filler}

take_nth : (ss : List Sort) (n : ℕ) (z : Sort) → Nth ss n z → take (n + 1) ss ≡ take n ss ++ z ∷ []
take_nth [] n z h = absurd h
take_nth (s ∷ ss) zero z h = ap (λ x. x ∷ []) h
take_nth (s ∷ ss) (suc n) z h = let e : suc n + 1 ≡ suc (n + 1) = omega arith in rw e (ap (λ l. s ∷ l) (take_nth ss n z h))

module _ (s : Sort) (cells : List ℕ) (at c : ℕ) (here : at < length cells) (is : c ≡ get_or cells at 0) where
  -- no tree of the sort begins with the cell
  pub stuck_cell : admits s c ≡ false → Stuck admits kids (s ∷ []) cells at at
  stuck_cell h = stuck_bad admits kids filler s [] cells at here (ap (admits s) (sym is) ∙ h)

  module _ (h : admits s c ≡ true) (n mid deep : ℕ) (so_far : Lies admits kids (take n (kids s c)) cells (at + 1) mid deep) where
    module _ (l : n < children c) (z : Sort) (e : z ≡ child_sort (kind c) n) where
      more : take (n + 1) (kids s c) ≡ take n (kids s c) ++ z ∷ []
      more = take_nth (kids s c) n z (subst (Nth (kids s c) n) (sym e) (nth_sort s c n h l))

      -- a child more
      pub lies_more : (end d : ℕ) → Lies admits kids (z ∷ []) cells mid end d → Lies admits kids (take (n + 1) (kids s c)) cells (at + 1) end (max deep d)
      lies_more end d p =
          subst (λ ss. Lies admits kids ss cells (at + 1) end (max deep d)) (sym more) (lies_after admits kids (take n (kids s c)) (z ∷ []) so_far p)

      -- or the child is stuck
      pub stuck_child : (i : ℕ) → Stuck admits kids (z ∷ []) cells mid i → Stuck admits kids (s ∷ []) cells at i
      stuck_child i p =
          let q = stuck_after admits kids filler (take n (kids s c)) (z ∷ []) so_far p in
          let r = stuck_front admits kids filler (take n (kids s c) ++ z ∷ []) (drop (n + 1) (kids s c)) q in
          let e : take n (kids s c) ++ z ∷ [] ++ drop (n + 1) (kids s c) ≡ kids s c = ap (λ ss. ss ++ drop (n + 1) (kids s c)) (sym more) ∙ take-append-drop (n + 1) (kids s c) in
          stuck_in admits kids filler s cells at here (kids s c) i (ap (admits s) (sym is) ∙ h) (ap (kids s) (sym is)) (subst (λ ss. Stuck admits kids ss cells (at + 1) i) e r)

    -- all children
    pub lies_cell : children c ≤ n → Lies admits kids (s ∷ []) cells at mid (deep + 1)
    lies_cell l =
        let a = arity s c h in
        lies_in admits kids s cells at here (kids s c) mid deep (ap (admits s) (sym is) ∙ h) (ap (kids s) (sym is)) (subst (λ ss. Lies admits kids ss cells (at + 1) mid deep) (take_all n (kids s c) (omega (arith, a))) so_far)
