-- A row that stands at a cell, taken apart, and lists written over from a cell on. Assumes nothing.
use Rattle.std.proofs.Common.{◌≡◌, ℕ, suc, ◌+◌, ◌-◌, ◌<◌, ◌≤◌, ◌⊎◌, List, [], ◌∷◌, ◌++◌, length, get_or, drop, set, sym, refl, ap, ◌∙◌, subst, inl, inr, append_assoc, append-nil, arith, length-append, length-drop, length-set}
use Rattle.std.proofs.lemmas.List.{drop_more, drop-drop, drop_at}
use Rattle.terms.specs.Cells.{children}
use Rattle.terms.specs.Lists.{over}
use Rattle.terms.specs.Rows.{Row, flat, size, width, above, Counted}
use Rattle.terms.specs.Rows.Row.{none, node}
use Rattle.terms.specs.Standing.{Stands}
use Rattle.terms.proofs.Trees.{flat_size}

-- a row of some trees that stands at a cell: the first cell, its children from the next on, and the other trees
pub record Opened (t : Row) (n at : ℕ) (cells : List ℕ) : Type 0 where
  pub ks : Row
  pub r : Row
  pub is : t ≡ node (get_or cells at 0) ks r
  pub within : at + size t ≤ length cells
  pub sized : size t ≡ suc (size ks + size r)
  pub first : Stands ks (children (get_or cells at 0)) cells (at + 1)
  pub others : Stands r (n - 1) cells (at + 1 + size ks)
  pub rest : List ℕ
  pub tail : (flat ks ++ flat r) ++ rest ≡ drop (at + 1) cells

pub opened : (t : Row) {n at : ℕ} {cells : List ℕ} → Stands t n cells at → (n ≡ 0 → ⊥) → Opened t n at cells
opened none s h = absurd (omega (arith, s.wide))
opened (node c ks r) {n} {at} {cells} s h =
    let g = s.counted in
    let len : length (flat (node c ks r)) + length s.rest ≡ length cells - at =
    sym (length-append (flat (node c ks r)) s.rest) ∙ ap length s.reads ∙ length-drop at cells in
    let long = flat_size (node c ks r) in
    let w : at + size (node c ks r) ≤ length cells = omega (arith, len, long) in
    let wi : at < length cells = omega (arith, len, long) in
    let m = s.reads ∙ drop_more cells at 0 wi in
    let hd : c ≡ get_or cells at 0 = cc m in
    let tl : (flat ks ++ flat r) ++ s.rest ≡ drop (at + 1) cells = cc m in
    let tk : flat ks ++ (flat r ++ s.rest) ≡ drop (at + 1) cells = sym (append_assoc (flat ks) (flat r) s.rest) ∙ tl in
    record {
      ks = ks;
      r = r;
      is = ap (λ d. node d ks r) hd;
      within = w;
      sized = refl;
      rest = s.rest;
      tail = tl;
      first = record { counted = g.2; wide = sym g.1 ∙ ap children hd; rest = flat r ++ s.rest; reads = tk };
      others =
          record {
            counted = g.3;
            wide = omega (arith, s.wide);
            rest = s.rest;
            reads = sym (drop_at (flat ks) (flat r ++ s.rest) (size ks) (flat_size ks)) ∙ ap (drop (size ks)) tk ∙ drop-drop (size ks) (at + 1) cells;
          };
    }

-- the same row at the same cell
pub moved : {t : Row} {n at m j : ℕ} {cells : List ℕ} → Stands t n cells at → m ≡ n → j ≡ at → Stands t m cells j
moved {t} {cells = cells} s e f = rw (e, f) s

-- a row has no more cells than the list from there on
pub size_within : {t : Row} {n at : ℕ} {cells : List ℕ} → Stands t n cells at → size t ≤ length cells - at
size_within {t} {at = at} {cells = cells} s =
    omega (arith, flat_size t, sym (length-append (flat t) s.rest) ∙ ap length s.reads ∙ length-drop at cells)

-- no trees stand anywhere
pub stands_none : (cells : List ℕ) (at : ℕ) → Stands none 0 cells at
stands_none cells at = record { counted = tt; wide = refl; rest = drop at cells; reads = refl }

-- the first tree of a row as a row of its own
module _ {t : Row} {n at : ℕ} {cells : List ℕ} (s : Stands t n cells at) (o : Opened t n at cells) where
  abbrev pub first_tree : Row
  first_tree = node (get_or cells at 0) o.ks none

  pub stands_first : Stands first_tree 1 cells at
  stands_first =
      let g = subst Counted o.is s.counted in
      let w : at < length cells = omega (arith, o.within, o.sized) in
      record {
        counted = (g.0, g.1, g.2, tt);
        wide = refl;
        rest = flat o.r ++ o.rest;
        reads = ap (λ l. get_or cells at 0 ∷ l ++ (flat o.r ++ o.rest)) (append-nil (flat o.ks)) ∙ ap (λ l. get_or cells at 0 ∷ l) (sym (append_assoc (flat o.ks) (flat o.r) o.rest) ∙ o.tail) ∙ sym (drop_more cells at 0 w);
      }

-- binders above the first tree, by the number of trees
pub above_last : (d b : ℕ) (r : Row) → width r ≡ 0 → above d b r ≡ d + b
above_last d b none w = refl
above_last d b (node c ks r) w = absurd (omega arith)

pub above_more : (d b : ℕ) (r : Row) → 0 < width r → above d b r ≡ d
above_more d b none w = absurd (omega arith)
above_more d b (node c ks r) w = refl

pub under_is : {t : Row} {n at : ℕ} {cells : List ℕ} (o : Opened t n at cells) (d b e : ℕ) → (n ≡ 0 → ⊥) → ((n ≡ 1) × (e ≡ d + b)) ⊎ ((n ≡ 1 → ⊥) × (e ≡ d)) → e ≡ above d b o.r
under_is o d b e h (inl w) = w.1 ∙ sym (above_last d b o.r (omega (arith, o.others.wide, w.0)))
under_is o d b e h (inr w) = let k = w.0 in w.1 ∙ sym (above_more d b o.r (omega (arith, o.others.wide)))

-- written over, one list after the other
pub over-++ : (l : List ℕ) (i : ℕ) (xs ys : List ℕ) (j : ℕ) → j ≡ i + length xs → over l i (xs ++ ys) ≡ over (over l i xs) j ys
over-++ l i [] ys j e = ap (λ k. over l k ys) (omega arith)
over-++ l i (x ∷ xs) ys j e = over-++ (set l i x) (i + 1) xs ys j (omega arith)

pub over_length : (l : List ℕ) (i : ℕ) (xs : List ℕ) → length (over l i xs) ≡ length l
over_length l i [] = refl
over_length l i (x ∷ xs) = over_length (set l i x) (i + 1) xs ∙ length-set l i x
