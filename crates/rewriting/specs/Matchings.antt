-- A left side's patterns against the terms of a redex: the bindings that make them match, and where those lie.
use Rattle.std.specs.Prelude.{◌≡◌, ℕ, ◌<◌, ◌≤◌, Bool, cond, List, [], length, replicate, Some, None, Option, nat_lt, slice_index_or}
use Rattle.std.specs.Borrow.{Bor}
use Rattle.terms.specs.Lists.{count}
use Rattle.terms.specs.Rows.{Row, flat, width, fvs, pick}
use Rattle.terms.specs.Standing.{Stands}
use Rattle.moves.specs.Images.{nothing}
use Rattle.lets.specs.Syntax.{Lawful, Terms, light, ProgramRule}
use Rattle.lets.specs.Syntax.Sort.{pattern}
use Rattle.lets.specs.Figure.{Match, binding}

-- the program rule that the argument numbers, and these are its cells
abbrev pub RuleOf : Row → ℕ → List ℕ → Type 0
RuleOf program argument cells = ProgramRule (pick program argument []) × (flat (pick program argument []) ≡ cells)

-- Patterns that fill their cells, their variables, at most so many, the numbers below the count of these, each once;
-- and as many terms at the front of other cells.
pub record Facing (p ts : Row) (patterns terms : List ℕ) (most : ℕ) : Type 0 where
  pub lawful : Lawful (replicate (width p) pattern) p
  pub reads : flat p ≡ patterns
  pub once : (x : ℕ) → count x (fvs p) ≡ cond (nat_lt x (length (fvs p))) 1 0
  pub few : length (fvs p) ≤ most
  pub letters : Terms ts
  pub stands : Stands ts (width p) terms 0

-- Bindings: n terms, with these cells.
pub record Bound (θ : Row) (n : ℕ) (values : List (Bor (List ℕ))) : Type 0 where
  pub wide : width θ ≡ n
  pub terms : Terms θ
  pub reads : (x : ℕ) → x < n → flat (binding θ x) ≡ (slice_index_or values x nothing).now

-- one binding for each variable, and no others make the patterns match; or none do
abbrev pub Matched : (p ts : Row) → List (Bor (List ℕ)) → Option ℕ → Type 0
Matched p ts values (Some n) =
    (n ≡ length (fvs p)) × ((θ : Row) × Bound θ n values × Match θ p ts × ((other : Row) → width other ≡ n → Match other p ts → other ≡ θ))
Matched p ts values None = (θ : Row) → Match θ p ts → ⊥

-- are the bindings with these cells light?
abbrev pub LightBound : List (Bor (List ℕ)) → Bool → Type 0
LightBound values r = (θ : Row) → Bound θ (length values) values → r ≡ light θ
