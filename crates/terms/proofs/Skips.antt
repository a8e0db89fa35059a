-- A walk over cells that counts the trees still to come: where they end, those that it began with end. Assumes nothing.
use Rattle.std.proofs.Common.{◌≡◌, ℕ, zero, suc, ◌+◌, ◌-◌, ◌^◌, ◌<◌, ◌≤◌, List, ◌∷◌, ◌++◌, length, get_or, sym, refl, ap, ◌∙◌, arith}
use Rattle.std.proofs.lemmas.List.{drop_more}
use Rattle.terms.specs.Cells.{children}
use Rattle.terms.specs.Rows.{Row, flat, size, width, Counted, ◌&◌}
use Rattle.terms.specs.Rows.Row.{none, node}
use Rattle.terms.specs.Standing.{Stands}
use Rattle.terms.proofs.Inject.{width-&}
use Rattle.terms.proofs.Trees.{flat-&, counted-&}
use Rattle.terms.proofs.Bridge.{size-&}
use Rattle.terms.proofs.Steps.{opened}

-- a row cut after m trees
pub record Halves (m k : ℕ) (s : Row) : Type 0 where
  pub a : Row
  pub b : Row
  pub is : s ≡ a & b
  pub left : width a ≡ m
  pub right : width b ≡ k
  pub counted_a : Counted a
  pub counted_b : Counted b

pub halves : (s : Row) (m k : ℕ) → width s ≡ m + k → Counted s → Halves m k s
halves s zero k w g = record { a = none; b = s; is = refl; left = refl; right = omega arith; counted_a = tt; counted_b = g }
halves none (suc m) k w g = absurd (omega arith)
halves (node c ks r) (suc m) k w g =
    let h = halves r m k (omega arith) g.3 in
    record {
      a = node c ks h.a;
      b = h.b;
      is = ap (node c ks) h.is;
      left = ap suc h.left;
      right = h.right;
      counted_a = (g.0, g.1, g.2, h.counted_a);
      counted_b = h.counted_b;
    }

pub width_size : (t : Row) → width t ≤ size t
width_size none = omega arith
width_size (node c ks r) = omega (arith, width_size r)

-- n trees at `at` end where k trees at p end
pub record Carries (n at k p : ℕ) (cells : List ℕ) : Type 0 where
  pub back : (s : Row) → Stands s k cells p → (t : Row) × Stands t n cells at × (at + size t ≡ p + size s)
  pub forth : (t : Row) → Stands t n cells at → (s : Row) × Stands s k cells p × (at + size t ≡ p + size s)

pub carries_start : (n at : ℕ) (cells : List ℕ) → Carries n at n at cells
carries_start n at cells = record { back = λ s h. (s, h, refl); forth = λ t h. (t, h, refl) }

-- one cell more: a tree fewer to come, and its children
pub carries_more : (n at k p : ℕ) (cells : List ℕ) → Carries n at k p cells → 0 < k → p < length cells → get_or cells p 0 < 2 ^ 64 → Carries n at (k - 1 + children (get_or cells p 0)) (p + 1) cells
carries_more n at k p cells c h w f =
    record {
      back = λ s q.
          let x = get_or cells p 0 in
          let v = halves s (children x) (k - 1) (omega (arith, q.wide)) q.counted in
          let e : flat v.a ++ flat v.b ≡ flat s = sym (flat-& v.a v.b) ∙ ap flat (sym v.is) in
          let z = size-& v.a v.b in
          let y = ap size v.is in
          let r : Stands (node x v.a v.b) k cells p =
          record {
            counted = (f, sym v.left, v.counted_a, v.counted_b);
            wide = omega (arith, v.right);
            rest = q.rest;
            reads = ap (λ l. x ∷ l ++ q.rest) e ∙ ap (λ l. x ∷ l) q.reads ∙ sym (drop_more cells p 0 w);
          } in
          let b = c.back (node x v.a v.b) r in
          (b.0, b.1, omega (arith, b.2));
      forth = λ t q.
          let b = c.forth t q in
          let o = opened b.0 b.1 (omega arith) in
          let fs = o.first in
          let r : Stands (o.ks & o.r) (k - 1 + children (get_or cells p 0)) cells (p + 1) =
          record {
            counted = counted-& o.ks o.r fs.counted o.others.counted;
            wide = omega (arith, width-& o.ks o.r, fs.wide, o.others.wide);
            rest = o.rest;
            reads = ap (λ l. l ++ o.rest) (flat-& o.ks o.r) ∙ o.tail;
          } in
          (o.ks & o.r, r, omega (arith, b.2, o.sized, size-& o.ks o.r));
    }
