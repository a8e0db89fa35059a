-- Where a variable lies under tuples. Assumes nothing.
use Rattle.std.proofs.Common.{◌≡◌, ℕ, ◌+◌, ◌-◌, ◌≤◌, length, Bool, true, false, not, ◌&&◌, ◌||◌, eqb, is_some, Some, None, Decides, Option, sym, refl, ap, ◌∙◌, subst, arith}
use mathlib.Core.Bool.{false≢true}
use Rattle.std.proofs.lemmas.Bool.{eq-eqb, ne_eqb, eqb-true}
use Rattle.moves.proofs.Scopes.{part_are}
use Rattle.terms.specs.Cells.{kind, children, cell}
use Rattle.terms.specs.Forest.{Are, Part, Headed}
use Rattle.terms.specs.Standing.{Stands}
use Rattle.terms.specs.declared.forest.Trees.{Trees}
use Rattle.terms.specs.Rows.{Row, size}
use Rattle.terms.specs.Rows.Row.{node}
use Rattle.terms.proofs.Inject.{empty}
use Rattle.terms.proofs.Standings.{standing, stands_same}
use Rattle.terms.proofs.Steps.{opened, moved}
use Rattle.verse.specs.Syntax.{Val}
use Rattle.verse.specs.Contexts.{lies}
use Rattle.verse.specs.Lines.{Word, Holds}
use Rattle.verse.proofs.Occurs.{occurrence}
use Rattle.verse_rules.specs.Tests.{Clear}

-- at the first tree
pub lies_here : (x c : ℕ) (t ks r : Row) → t ≡ node c ks r → c ≡ cell 0 0 0 x → lies x t ≡ true
lies_here x c t ks r e i = ap (lies x) e ∙ ap (λ b. b || (eqb (kind c) 3 && lies x ks || lies x r)) (eq-eqb c (cell 0 0 0 x) i)

-- in the first tree
pub lies_under : (x c : ℕ) (t ks r : Row) → t ≡ node c ks r → kind c ≡ 3 → lies x ks ≡ true → lies x t ≡ true
lies_under x c t ks r e i h = ap (lies x) e ∙ go (eqb c (cell 0 0 0 x)) (eqb (kind c) 3) (lies x ks) (lies x r) (eq-eqb (kind c) 3 i) h
  where
    go : (p q s u : Bool) → q ≡ true → s ≡ true → p || (q && s || u) ≡ true
    go true q s u a b = refl
    go false true true u a b = refl
    go false true false u a b = absurd (false≢true b)
    go false false s u a b = absurd (false≢true a)

-- not there, so in the others or nowhere
pub lies_beyond : (x c : ℕ) (t ks r : Row) → t ≡ node c ks r → (c ≡ cell 0 0 0 x → ⊥) → (kind c ≡ 3 → lies x ks ≡ false) → lies x t ≡ lies x r
lies_beyond x c t ks r e n m = ap (lies x) e ∙ go (eqb c (cell 0 0 0 x)) (eqb (kind c) 3) (lies x ks) (lies x r) (ne_eqb c (cell 0 0 0 x) n) (λ k. m (eqb-true (kind c) 3 k))
  where
    go : (p q s u : Bool) → p ≡ false → (q ≡ true → s ≡ false) → p || (q && s || u) ≡ u
    go true q s u a b = absurd (false≢true (sym a))
    go false false s u a b = refl
    go false true true u a b = absurd (false≢true (sym (b refl)))
    go false true false u a b = refl

-- the same with where the trees end
pub clear_beyond : (x at next c : ℕ) (t ks r : Row) → t ≡ node c ks r → (c ≡ cell 0 0 0 x → ⊥) → (kind c ≡ 3 → lies x ks ≡ false) → next ≡ at + 1 + size ks → (o : Option ℕ) → Clear x r next o → Clear x t at o
clear_beyond x at next c t ks r e n m k (Some z) h = let s = ap size e in (lies_beyond x c t ks r e n m ∙ h.0, omega (arith, h.1, s, k))
clear_beyond x at next c t ks r e n m k None h = lies_beyond x c t ks r e n m ∙ h

-- the first of some trees with its children, and the others
pub record Cut (trees : Trees) (c : ℕ) (below : Trees) (t : Row) : Type 0 where
  pub ks : Row
  pub r : Row
  pub is : t ≡ node c ks r
  pub within : trees.at + 1 + size ks ≤ length trees.cells.now
  pub inner : Are below ks
  pub starts : below.at ≡ trees.at + 1
  pub others : Stands r (trees.n - 1) trees.cells.now (trees.at + 1 + size ks)

pub cut : {trees below : Trees} {c : ℕ} {t : Row} → Headed trees (Some (c, below)) → Are trees t → Cut trees c below t
cut {trees} {below} {c} {t} (some, e, part) s =
    let o = opened t s (λ z. omega (arith, some, z)) in
    record {
      ks = o.ks;
      r = o.r;
      is = o.is ∙ ap (λ d. node d o.ks o.r) (sym e);
      within = omega (arith, o.within, o.sized);
      inner = part_are part (moved o.first (ap children e) refl);
      starts = part.start;
      others = o.others;
    }

-- The trees before the rest, a row r, do not have x: where it lies in the row, it lies in all.
pub record Clearing (x : ℕ) (trees rest : Trees) : Type 0 where
  pub r : Row
  pub stands : Are rest r
  pub cells : length rest.cells.now ≡ length trees.cells.now
  pub start : trees.at ≤ rest.at
  pub onward : (t : Row) → Are trees t → (o : Option ℕ) → Clear x r rest.at o → Clear x t trees.at o

pub clearing : (x : ℕ) (trees : Trees) → Clearing x trees trees
clearing x trees =
    let s = standing trees.standing in
    record {
      r = s.0;
      stands = s.1;
      cells = refl;
      start = omega arith;
      onward = λ t a o w. subst (λ u. Clear x u trees.at o) (stands_same s.1 a) w;
    }

module _ {x : ℕ} {trees rest : Trees} (v : Clearing x trees rest) where
  -- there are no others
  pub all_clear : rest.n ≡ 0 → (t : Row) → Are trees t → Clear x t trees.at (Some rest.at)
  all_clear e t a =
      let none = empty v.r (v.stands.wide ∙ e) in
      v.onward t a (Some rest.at) (ap (lies x) none, omega (arith, ap size none))

  -- or a first one
  module _ {below : Trees} {c : ℕ} (h : Headed rest (Some (c, below))) where
    pub next_tree : Cut rest c below v.r
    next_tree = cut h v.stands

    pub found_here : c ≡ cell 0 0 0 x → (t : Row) → Are trees t → Clear x t trees.at None
    found_here i t a = let k = next_tree in v.onward t a None (lies_here x c v.r k.ks k.r k.is i)

    pub found_under : kind c ≡ 3 → ((ks : Row) → Are below ks → Clear x ks below.at None) → (t : Row) → Are trees t → Clear x t trees.at None
    found_under i f t a = let k = next_tree in v.onward t a None (lies_under x c v.r k.ks k.r k.is i (f k.ks k.inner))

    pub next_clear : {part : Trees} (next : ℕ) → (c ≡ cell 0 0 0 x → ⊥) → ((ks : Row) → Are below ks → (next ≡ below.at + size ks) × (kind c ≡ 3 → lies x ks ≡ false)) → Part rest next (rest.n - 1) part → Clearing x trees part
    next_clear {part} next i f e =
        let k = next_tree in
        let d = f k.ks k.inner in
        let ends : next ≡ rest.at + 1 + size k.ks = omega (arith, d.0, k.starts) in
        record {
          r = k.r;
          stands = part_are e (moved k.others refl ends);
          cells = ap length e.cells ∙ v.cells;
          start = omega (arith, e.start, ends, v.start);
          onward = λ t a o w. v.onward t a o (clear_beyond x rest.at part.at c v.r k.ks k.r k.is i d.1 (e.start ∙ ends) o w);
        }

-- the test of a value
pub held : (x at : ℕ) (v : Row) (o : Option ℕ) (r : Bool) → Word x → Val v → Clear x v at o → is_some o ≡ not r → Decides r (Holds x v)
held x at v (Some e) true z h k i = absurd (false≢true (sym i))
held x at v (Some e) false z h k i = (λ b. absurd (false≢true b), λ w. sym k.0 ∙ (occurrence x v z h).0.0 w)
held x at v None true z h k i = (λ b. (occurrence x v z h).0.1 k, λ w. refl)
held x at v None false z h k i = absurd (false≢true i)
