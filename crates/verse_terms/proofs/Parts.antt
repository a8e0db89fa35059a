-- A part of a row that stands at a cell, and its sort in any grammar. Assumes nothing.
use Rattle.std.proofs.Common.{◌≡◌, ℕ, zero, suc, ◌+◌, ◌<◌, ◌≤◌, Bool, List, [], ◌∷◌, ◌++◌, length, get_or, drop, replicate, sym, refl, ap, ◌∙◌, subst, append_assoc, arith}
use Rattle.std.proofs.lemmas.List.{drop_at, drop-drop}
use Rattle.terms.specs.Cells.{children}
use Rattle.terms.specs.Rows.{Row, flat, size, width, pick, Place, before, after}
use Rattle.terms.specs.Rows.Row.{none, node}
use Rattle.terms.specs.Grammar.{Lawful, At}
use Rattle.terms.specs.Standing.{Stands}
use Rattle.terms.proofs.Bridge.{at_place}
use Rattle.terms.proofs.Inject.{empty}
use Rattle.terms.proofs.Steps.{opened}
use Rattle.terms.proofs.Trees.{pick_one, pick_flat}
use Rattle.terms.proofs.Ways.{place_front, place_width}
use Rattle.terms.proofs.Wholes.{pick_counted}

-- one tree that stands at a cell: that cell, and its children from the next on
pub record Rooted (t : Row) (at : ℕ) (cells : List ℕ) : Type 0 where
  pub ks : Row
  pub is : t ≡ node (get_or cells at 0) ks none
  pub here : at < length cells
  pub within : at + size t ≤ length cells
  pub sized : size t ≡ suc (size ks)
  pub first : Stands ks (children (get_or cells at 0)) cells (at + 1)

pub rooted : {t : Row} {at : ℕ} {cells : List ℕ} → Stands t 1 cells at → Rooted t at cells
rooted {t} {at} {cells} s =
    let o = opened t s (λ e. omega arith) in
    let z = empty o.r (omega (arith, o.others.wide)) in
    let k = ap size z in
    record { ks = o.ks; is = o.is ∙ ap (node (get_or cells at 0) o.ks) z; here = omega (arith, o.within, o.sized); within = o.within; sized = omega (arith, o.sized, k); first = o.first }

-- the part stands behind the cells before it
pub part_stands : {t : Row} {n at : ℕ} {cells : List ℕ} → Stands t n cells at → (i : ℕ) (p : List ℕ) → Place t i p → Stands (pick t i p) 1 cells (at + length (before t i p))
part_stands {t} {at = at} {cells = cells} s i p h =
    let l = before t i p in
    let m = flat (pick t i p) ++ after t i p in
    let e : l ++ (m ++ s.rest) ≡ drop at cells = sym (append_assoc l m s.rest) ∙ ap (λ x. x ++ s.rest) (sym (pick_flat t i p h)) ∙ s.reads in
    record {
      counted = pick_counted t i p s.counted;
      wide = pick_one t i p h;
      rest = after t i p ++ s.rest;
      reads = sym (append_assoc (flat (pick t i p)) (after t i p) s.rest) ∙ sym (drop_at l (m ++ s.rest) (length l) refl) ∙ ap (drop (length l)) e ∙ drop-drop (length l) at cells;
    }

-- s is the entry number n of a list
abbrev pub Nth : {S : Type 0} → List S → ℕ → S → Type 0
Nth [] n s = ⊥
Nth (z ∷ zs) zero s = z ≡ s
Nth (z ∷ zs) (suc n) s = Nth zs n s

-- of so many entries that are the same each is so
pub nth_replicate : {S : Type 0} (s : S) (n m : ℕ) → n < m → Nth (replicate m s) n s
nth_replicate s n zero h = absurd (omega arith)
nth_replicate s zero (suc m) h = refl
nth_replicate s (suc n) (suc m) h = nth_replicate s n m (omega arith)

module _ {S : Type 0} (admits : S → ℕ → Bool) (kids : S → ℕ → List S) where
  -- the tree number n of a lawful row has the sort of that number,
  pub nth_lawful : (ss : List S) (t : Row) (n : ℕ) (s : S) → Lawful admits kids ss t → Nth ss n s → Lawful admits kids (s ∷ []) (pick t n [])
  nth_lawful [] t n s h k = absurd k
  nth_lawful (z ∷ ss) none n s h k = absurd h
  nth_lawful (z ∷ ss) (node c ks r) zero s h k = subst (λ x. Lawful admits kids (x ∷ []) (node c ks none)) k (h.0, h.1, tt)
  nth_lawful (z ∷ ss) (node c ks r) (suc n) s h k = nth_lawful ss r n s h.2 k

  -- and a place below it is one of the row
  module _ (P : S → ℕ → Type 0) where
    same_sort : (z s : S) (ss zs : List S) (c : ℕ) (ks r q : Row) (p : List ℕ) → z ≡ s → At admits kids P (z ∷ ss) (node c ks r) 0 p → At admits kids P (s ∷ zs) (node c ks q) 0 p
    same_sort z s ss zs c ks r q [] e a = subst (λ x. P x c) e a
    same_sort z s ss zs c ks r q (j ∷ p) e a = subst (λ x. At admits kids P (kids x c) ks j p) e a

    pub nth_down : (ss : List S) (t : Row) (n : ℕ) (s : S) (p : List ℕ) → Nth ss n s → At admits kids P ss t n p → At admits kids P (s ∷ []) (pick t n []) 0 p
    nth_down [] t n s p k a = absurd k
    nth_down (z ∷ ss) none n s p k a = absurd a
    nth_down (z ∷ ss) (node c ks r) zero s p k a = same_sort z s ss [] c ks r none p k a
    nth_down (z ∷ ss) (node c ks r) (suc n) s p k a = nth_down ss r n s p k a

    pub nth_back : (ss : List S) (t : Row) (n : ℕ) (s : S) (p : List ℕ) → Nth ss n s → At admits kids P (s ∷ []) (pick t n []) 0 p → At admits kids P ss t n p
    nth_back [] t n s p k a = absurd k
    nth_back (z ∷ ss) none n s p k a = absurd a
    nth_back (z ∷ ss) (node c ks r) zero s p k a = same_sort s z [] ss c ks none r p (sym k) a
    nth_back (z ∷ ss) (node c ks r) (suc n) s p k a = nth_back ss r n s p k a

    -- a row has no place past its trees
    pub none_there : (ss : List S) (t : Row) (n : ℕ) (p : List ℕ) → width t ≤ n → At admits kids P ss t n p → ⊥
    none_there ss t n p h a = let k = place_width t n (place_front t n [] p (at_place admits kids P ss t n p a)) in omega arith
