-- A tree that fills the cells of a part, and its children. Assumes nothing.
use Rattle.std.proofs.Common.{◌≡◌, ℕ, ◌+◌, true, false, eqb, List, [], ◌∷◌, ◌++◌, length, take, drop, Some, None, Decides, Option, slice_get, sym, refl, ap, ◌∙◌, append-nil, take-append-drop, arith}
use lib.Pointwise.{pointwise, bytes_decides}
use Rattle.std.specs.Borrow.{Bor}
use Rattle.std.specs.Option.{MatchOption}
use Rattle.std.proofs.lemmas.Bool.{false≢true}
use Rattle.std.proofs.lemmas.List.{take_at, drop_at}
use Rattle.terms.specs.Cells.{children}
use Rattle.terms.specs.Rows.{Row, flat, size, width, Counted, ◌&◌}
use Rattle.terms.specs.Rows.Row.{none, node}
use Rattle.terms.specs.Standing.{Stands, Ends}
use Rattle.terms.specs.Terms.{TreeOf}
use Rattle.terms.proofs.Trees.{flat_size, flat-&}
use Rattle.terms.proofs.Standings.{stands_same}
use Rattle.pieces.specs.Parts.{Topped, Single}

-- the cell of a tree, and its children in the cells that follow
pub record Split (t : Row) (c : ℕ) (xs : List ℕ) : Type 0 where
  pub ks : Row
  pub is : t ≡ node c ks none
  pub counted : Counted ks
  pub wide : width ks ≡ children c
  pub reads : flat ks ≡ xs

pub split : (t : Row) (c : ℕ) (xs cells : List ℕ) → TreeOf cells t → cells ≡ c ∷ xs → Split t c xs
split none c xs cells s e = absurd (omega (arith, s.one))
split (node d ks (node b js r)) c xs cells s e = absurd (omega (arith, s.one))
split (node d ks none) c xs cells s e =
    let q : d ∷ (flat ks ++ []) ≡ c ∷ xs = s.reads ∙ e in
    let h : d ≡ c = cc q in
    let g = s.counted in
    record {
      ks = ks;
      is = ap (λ x. node x ks none) h;
      counted = g.2;
      wide = sym g.1 ∙ ap children h;
      reads = let k : flat ks ++ [] ≡ xs = cc q in sym (append-nil (flat ks)) ∙ k;
    }

pub topped : (t : Row) (cells : List ℕ) (r : Option ℕ) → TreeOf cells t → r ≡ slice_get cells 0 → Topped t r
topped none cells r s e = absurd (omega (arith, s.one))
topped (node d ks (node b js q)) cells r s e = absurd (omega (arith, s.one))
topped (node d ks none) cells r s e = rw (e, ← s.reads) (ks, refl)

-- is the first cell that one?
starts : (cells : List ℕ) (c : ℕ) → pointwise eqb (take 1 cells) (c ∷ []) ≡ true → cells ≡ c ∷ drop 1 cells
starts cells c h = sym (take-append-drop 1 cells) ∙ ap (λ l. l ++ drop 1 cells) ((bytes_decides (take 1 cells) (c ∷ [])).0 h)

other : (cells xs : List ℕ) (c : ℕ) → pointwise eqb (take 1 cells) (c ∷ []) ≡ false → cells ≡ c ∷ xs → ⊥
other cells xs c h e = false≢true (sym h ∙ (bytes_decides (take 1 cells) (c ∷ [])).1 (ap (take 1) e))

-- that cell alone
no_cells : (ks : Row) → flat ks ≡ [] → ks ≡ none
no_cells none e = refl
no_cells (node c ks r) e = cc e

pub alone : (t : Row) (c : ℕ) (cells : List ℕ) → TreeOf cells t → Decides (pointwise eqb cells (c ∷ [])) (t ≡ node c none none)
alone t c cells s = (
  λ h.
      let p = split t c [] cells s ((bytes_decides cells (c ∷ [])).0 h) in
      p.is ∙ ap (λ r. node c r none) (no_cells p.ks p.reads),
  λ e. (bytes_decides cells (c ∷ [])).1 (sym s.reads ∙ ap flat e),
)

-- two trees side by side
record Pair (ks : Row) : Type 0 where
  a : Row
  b : Row
  is : ks ≡ a & b
  one_a : width a ≡ 1
  one_b : width b ≡ 1
  counted_a : Counted a
  counted_b : Counted b

pair : (ks : Row) → width ks ≡ 2 → Counted ks → Pair ks
pair none w g = absurd (omega arith)
pair (node c ks r) w g =
    record { a = node c ks none; b = r; is = refl; one_a = refl; one_b = omega arith; counted_a = (g.0, g.1, g.2, tt); counted_b = g.3 }

module _ (t : Row) (c : ℕ) (cells : List ℕ) (s : TreeOf cells t) where
  -- over one tree
  pub single : children c ≡ 1 → (xs : List ℕ) → pointwise eqb (take 1 cells) (c ∷ []) ≡ true → xs ≡ drop 1 cells → (a : Row) × (t ≡ node c a none) × TreeOf xs a
  single h xs i e =
      let p = split t c xs cells s (starts cells c i ∙ ap (λ l. c ∷ l) (sym e)) in
      (p.ks, p.is, record { one = p.wide ∙ h; counted = p.counted; reads = p.reads })

  -- not that cell
  pub no_child : pointwise eqb (take 1 cells) (c ∷ []) ≡ false → (ks : Row) → t ≡ node c ks none → ⊥
  no_child h ks e = other cells (flat ks ++ []) c h (sym s.reads ∙ ap flat e)

  -- over two trees, the first of which ends where the cells say
  pub paired : children c ≡ 2 → (xs : List ℕ) → pointwise eqb (take 1 cells) (c ∷ []) ≡ true → xs ≡ drop 1 cells → (mid : ℕ) → Ends 1 xs 0 (Some mid) → (ys zs : List ℕ) → ys ≡ take mid xs → zs ≡ drop mid xs → (a b : Row) × (t ≡ node c (a & b) none) × TreeOf ys a × TreeOf zs b
  paired h xs i e mid (u, su, k) ys zs f g =
      let p = split t c xs cells s (starts cells c i ∙ ap (λ l. c ∷ l) (sym e)) in
      let q = pair p.ks (p.wide ∙ h) p.counted in
      let w : flat q.a ++ flat q.b ≡ xs = sym (flat-& q.a q.b) ∙ ap flat (sym q.is) ∙ p.reads in
      let su' : Stands q.a 1 xs 0 = record { counted = q.counted_a; wide = q.one_a; rest = flat q.b; reads = w } in
      let n : mid ≡ size q.a = omega (arith, k, ap size (stands_same su su')) in (
        q.a,
        q.b,
        p.is ∙ ap (λ r. node c r none) q.is,
        record { one = q.one_a; counted = q.counted_a; reads = sym (f ∙ ap (take mid) (sym w) ∙ take_at (flat q.a) (flat q.b) mid (flat_size q.a ∙ sym n)) },
        record { one = q.one_b; counted = q.counted_b; reads = sym (g ∙ ap (drop mid) (sym w) ∙ drop_at (flat q.a) (flat q.b) mid (flat_size q.a ∙ sym n)) },
      )

  -- the first of two trees ends somewhere
  pub some_first : children c ≡ 2 → (xs : List ℕ) → pointwise eqb (take 1 cells) (c ∷ []) ≡ true → xs ≡ drop 1 cells → Ends 1 xs 0 None → ⊥
  some_first h xs i e n =
      let p = split t c xs cells s (starts cells c i ∙ ap (λ l. c ∷ l) (sym e)) in
      let q = pair p.ks (p.wide ∙ h) p.counted in
      n q.a (record { counted = q.counted_a; wide = q.one_a; rest = flat q.b; reads = sym (flat-& q.a q.b) ∙ ap flat (sym q.is) ∙ p.reads })

  pub only_child : children c ≡ 1 → (r : Option (Bor (List ℕ))) → MatchOption r (pointwise eqb (take 1 cells) (c ∷ []) ≡ false) (λ x. (pointwise eqb (take 1 cells) (c ∷ []) ≡ true) × (x.now ≡ drop 1 cells) × (length x.now + 1 ≡ length cells)) → Single c t r
  only_child h (Some x) m = single h x.now m.0 m.1
  only_child h None m = no_child m
