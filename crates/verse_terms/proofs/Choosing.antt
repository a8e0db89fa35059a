-- Choice-free trees, one by one. Assumes nothing.
use Rattle.std.proofs.Common.{◌≡◌, ℕ, ◌+◌, ◌-◌, ◌≤◌, Bool, true, false, ◌&&◌, ◌||◌, eqb, leb, length, Some, refl, sym, ap, ◌∙◌, arith}
use Rattle.terms.specs.Cells.{kind}
use Rattle.terms.specs.Forest.{Are, Part, Headed}
use Rattle.terms.specs.Rows.{Row, size}
use Rattle.terms.specs.Rows.Row.{none, node}
use Rattle.terms.specs.declared.forest.Trees.{Trees}
use Rattle.terms.proofs.Inject.{empty}
use Rattle.terms.proofs.Standings.{standing, stands_same}
use Rattle.verse.specs.Contexts.{operator_first, choice_free}
use Rattle.verse_terms.proofs.Forests.{Split, split}

-- the first tree, and the others
pub free_first : (c : ℕ) (ks r : Row) → choice_free (node c ks r) ≡ choice_free (node c ks none) && choice_free r
free_first c ks r =
    go (leb (kind c) 4 || (eqb (kind c) 11 || eqb (kind c) 12) || (eqb (kind c) 6 || (eqb (kind c) 7 || eqb (kind c) 8)) && choice_free ks || eqb (kind c) 5 && operator_first ks)
  where
    go : (b : Bool) → b && choice_free r ≡ (b && true) && choice_free r
    go true = refl
    go false = refl

-- The trees before the rest, a row r, are choice-free: all are if those of the row are.
pub record Passed (trees rest : Trees) : Type 0 where
  pub r : Row
  pub stands : Are rest r
  pub cells : length rest.cells.now ≡ length trees.cells.now
  pub start : trees.at ≤ rest.at
  pub onward : (t : Row) → Are trees t → choice_free t ≡ choice_free r

pub passed : (trees : Trees) → Passed trees trees
passed trees =
    let s = standing trees.standing in
    record { r = s.0; stands = s.1; cells = refl; start = omega arith; onward = λ t a. ap choice_free (stands_same a s.1) }

module _ {trees rest : Trees} (v : Passed trees rest) where
  -- there are no others
  pub all_passed : rest.n ≡ 0 → (t : Row) → Are trees t → true ≡ choice_free t
  all_passed e t a = sym (v.onward t a ∙ ap choice_free (empty v.r (v.stands.wide ∙ e)))

  -- or a first one
  module _ {below : Trees} {c : ℕ} (h : Headed rest (Some (c, below))) where
    pub next_tree : Split rest below c v.r
    next_tree = split h v.stands

    pub not_passed : (b : Bool) → b ≡ false → ((ks : Row) → Are below ks → b ≡ choice_free (node c ks none)) → (t : Row) → Are trees t → false ≡ choice_free t
    not_passed b l f t a =
        let p = next_tree in
        sym (v.onward t a ∙ ap choice_free p.is ∙ free_first c p.ks p.r ∙ ap (λ q. q && choice_free p.r) (sym (f p.ks p.kids) ∙ l))

    pub next_passed : {part : Trees} {next : ℕ} (b : Bool) → b ≡ true → ((ks : Row) → Are below ks → b ≡ choice_free (node c ks none)) → ((ks : Row) → Are below ks → next ≡ below.at + size ks) → Part rest next (rest.n - 1) part → Passed trees part
    next_passed {part} {next} b l f g e =
        let p = next_tree in
        let ends = g p.ks p.kids in
        record {
          r = p.r;
          stands = p.others part next ends e;
          cells = ap length e.cells ∙ v.cells;
          start = omega (arith, e.start, ends, p.start, v.start);
          onward = λ t a. v.onward t a ∙ ap choice_free p.is ∙ free_first c p.ks p.r ∙ ap (λ q. q && choice_free p.r) (sym (f p.ks p.kids) ∙ l);
        }
