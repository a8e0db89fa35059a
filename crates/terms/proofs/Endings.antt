-- Where trees that stand at a cell end, and which stand there. Assumes nothing.
use Rattle.std.proofs.Common.{◌≡◌, ℕ, ◌+◌, ◌-◌, ◌<◌, ◌≤◌, Bool, true, false, ltb, List, [], ◌++◌, length, take, drop, Some, sym, refl, ap, ◌∙◌, subst, append_assoc, append-nil, arith}
use Rattle.std.proofs.lemmas.Bool.Decides.{nat_tests}
use Rattle.std.proofs.lemmas.List.{drop-drop, drop_at, take_at}
use Rattle.terms.specs.Rows.{Row, flat, size, width, ◌&◌, Counted, pick}
use Rattle.terms.specs.Rows.Row.{none, node}
use Rattle.terms.specs.Standing.{Stands, Ends}
use Rattle.terms.proofs.Inject.{width-&}
use Rattle.terms.proofs.Trees.{flat_size, flat-&, counted-&, same}
use Rattle.terms.proofs.Bridge.{size-&}
use Rattle.terms.proofs.Steps.{size_within, moved}
use Rattle.terms.proofs.Skips.{width_size, halves}

-- some trees end behind their first cell and within the list
pub ends_within : (n : ℕ) (cells : List ℕ) (at e : ℕ) → 1 ≤ n → Ends n cells at (Some e) → (at < e) × (e ≤ length cells)
ends_within n cells at e h (t, s, m) =
    let w = s.wide in
    let z = size_within s in
    (omega (arith, width_size t), omega (arith, width_size t))

-- one row stands at a cell, for each number of trees
pub one_stands : {s t : Row} {n at : ℕ} {cells : List ℕ} → Stands s n cells at → Stands t n cells at → s ≡ t
one_stands {s} {t} p q = (same s t p.rest q.rest p.counted q.counted (p.wide ∙ sym q.wide) (p.reads ∙ sym q.reads)).0

-- the cells from there to where it ends, and those behind it
pub stands_cells : {t : Row} {n at : ℕ} {cells : List ℕ} → Stands t n cells at → (m : ℕ) → m ≡ size t → take m (drop at cells) ≡ flat t
stands_cells {t} s m e = ap (take m) (sym s.reads) ∙ take_at (flat t) s.rest m (flat_size t ∙ sym e)

pub stands_rest : {t : Row} {n at : ℕ} {cells : List ℕ} (s : Stands t n cells at) (e : ℕ) → e ≡ at + size t → s.rest ≡ drop e cells
stands_rest {t} {at = at} {cells = cells} s e m =
    sym (drop_at (flat t) s.rest (size t) (flat_size t)) ∙ ap (drop (size t)) s.reads ∙ drop-drop (size t) at cells ∙ ap (λ k. drop k cells) (sym m)

-- a row beside another stands at a cell where both do, one behind the other
pub stands-& : (a b : Row) {m n at mid : ℕ} {cells : List ℕ} → Stands a m cells at → Stands b n cells mid → mid ≡ at + size a → Stands (a & b) (m + n) cells at
stands-& a b {m} {n} {at} {mid} {cells} p q e =
    record {
      counted = counted-& a b p.counted q.counted;
      wide = omega (arith, width-& a b, p.wide, q.wide);
      rest = q.rest;
      reads = ap (λ l. l ++ q.rest) (flat-& a b) ∙ append_assoc (flat a) (flat b) q.rest ∙ ap (λ l. flat a ++ l) (q.reads ∙ sym (stands_rest p mid e)) ∙ p.reads;
    }

-- and taken apart
pub stands_left : (a b : Row) {m at : ℕ} {cells : List ℕ} → Stands (a & b) m cells at → Counted a → Stands a (width a) cells at
stands_left a b s g =
    record { counted = g; wide = refl; rest = flat b ++ s.rest; reads = sym (append_assoc (flat a) (flat b) s.rest) ∙ ap (λ l. l ++ s.rest) (sym (flat-& a b)) ∙ s.reads }

pub stands_right : (a b : Row) {m at : ℕ} {cells : List ℕ} → Stands (a & b) m cells at → Counted b → (mid : ℕ) → mid ≡ at + size a → Stands b (width b) cells mid
stands_right a b {at = at} {cells = cells} s g mid e =
    let h : flat a ++ (flat b ++ s.rest) ≡ drop at cells = sym (append_assoc (flat a) (flat b) s.rest) ∙ ap (λ l. l ++ s.rest) (sym (flat-& a b)) ∙ s.reads in
    record {
      counted = g;
      wide = refl;
      rest = s.rest;
      reads = sym (drop_at (flat a) (flat b ++ s.rest) (size a) (flat_size a)) ∙ ap (drop (size a)) h ∙ drop-drop (size a) at cells ∙ ap (λ k. drop k cells) (sym e);
    }

pick-& : (a b : Row) → pick (a & b) (width a) [] ≡ pick b 0 []
pick-& none b = refl
pick-& (node c ks r) b = pick-& r b

one_pick : (b : Row) → 0 < width b → Counted b → (r : Row) × (b ≡ pick b 0 [] & r) × (width (pick b 0 []) ≡ 1) × Counted (pick b 0 [])
one_pick none h g = absurd (omega arith)
one_pick (node c ks r) h g = (r, refl, refl, (g.0, g.1, g.2, tt))

-- The cells are those of counted trees.
module _ (cells : List ℕ) (p : Row) (g : Counted p) (e : flat p ≡ cells) where
  all_stand : Stands p (width p) cells 0
  all_stand = record { counted = g; wide = refl; rest = []; reads = append-nil (flat p) ∙ e }

  -- no more trees stand at the first cell,
  pub stands_few : (t : Row) (n : ℕ) → Stands t n cells 0 → n ≤ width p
  stands_few t n s = go (ltb (width p) n) refl
    where
      go : (b : Bool) → ltb (width p) n ≡ b → n ≤ width p
      go false q = grind (arith, nat_tests)
      go true q =
          let l : width p < n = grind (arith, nat_tests) in
          let w = s.wide in
          let h = halves t (width p) (n - width p) (omega arith) s.counted in
          let u = subst (λ x. Stands x n cells 0) h.is s in
          let same_first : h.a ≡ p = one_stands (moved (stands_left h.a h.b u h.counted_a) (sym h.left) refl) all_stand in
          let z = size_within u in
          let long = ap length (sym e) ∙ flat_size p in
          absurd (omega (arith, z, size-& h.a h.b, ap size same_first, long, width_size h.b, h.right))

  -- and the tree of a number stands behind those before it
  pub tree_stands_at : (n : ℕ) → n < width p → (a : Row) × Stands a n cells 0 × Stands (pick p n []) 1 cells (size a)
  tree_stands_at n l =
      let h = halves p n (width p - n) (omega arith) g in
      let u = subst (λ x. Stands x (width p) cells 0) h.is all_stand in
      let q = one_pick h.b (omega (arith, h.right)) h.counted_b in
      let b = subst (λ x. Stands x (width h.b) cells (size h.a)) q.1 (stands_right h.a h.b u h.counted_b (size h.a) (omega arith)) in
      let f = moved (stands_left (pick h.b 0 []) q.0 b q.3) (sym q.2) refl in
      let k : pick h.b 0 [] ≡ pick p n [] =
      sym (pick-& h.a h.b) ∙ ap (λ m. pick (h.a & h.b) m []) h.left ∙ ap (λ x. pick x n []) (sym h.is) in
      (h.a, moved (stands_left h.a h.b u h.counted_a) (sym h.left) refl, subst (λ x. Stands x 1 cells (size h.a)) k f)
