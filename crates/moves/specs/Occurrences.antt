-- Where a free variable occurs among trees.
use Rattle.std.specs.Prelude.{◌≡◌, ℕ, ◌+◌, ◌<◌, List, [], ◌∷◌, ◌++◌, Some, None, Ok, Err, Option, Result, ◌≢◌, slice_index_or}
use Rattle.terms.specs.Cells.{binder}
use Rattle.terms.specs.Lists.{In}
use Rattle.terms.specs.Rows.{Row, size, above, frees}
use Rattle.terms.specs.Rows.Row.{none, node}
use Rattle.moves.specs.Renamings.{free}

-- the free number of each cell, if it has one, in the order of the cells
abbrev pub numbers : ℕ → ℕ → Row → List (Option ℕ)
numbers d b none = []
numbers d b (node c ks r) = free (above d b r) c ∷ numbers (above d b r) (binder c) ks ++ numbers d b r

-- x is free in the trees, and their cell number k, from 0, is the first that has it
pub record Occurs (x d b : ℕ) (t : Row) (k : ℕ) : Type 0 where
  pub free : In x (frees d b t)
  pub here : slice_index_or (numbers d b t) k None ≡ Some x
  pub before : (j : ℕ) → j < k → slice_index_or (numbers d b t) j None ≢ Some x

-- Of trees that stand at a cell: where they end, if no cell has x, or else the first cell that has it.
abbrev pub Searched : ℕ → ℕ → ℕ → Row → ℕ → Result ℕ ℕ → Type 0
Searched x d b t at (Ok e) = (e ≡ at + size t) × (In x (frees d b t) → ⊥)
Searched x d b t at (Err i) = (k : ℕ) × (i ≡ at + k) × Occurs x d b t k

-- the same without the end
abbrev pub FirstFree : ℕ → ℕ → ℕ → Row → ℕ → Option ℕ → Type 0
FirstFree x d b t at (Some i) = (k : ℕ) × (i ≡ at + k) × Occurs x d b t k
FirstFree x d b t at None = In x (frees d b t) → ⊥
