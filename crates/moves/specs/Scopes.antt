-- Trees that lie under binders.
use Rattle.std.specs.Prelude.{◌≡◌, ℕ, ◌+◌, ◌-◌, ◌≤◌, Some, None, Option, slice_index_or}
use Rattle.terms.specs.Cells.{binder, children}
use Rattle.terms.specs.Rows.{Row, size}
use Rattle.terms.specs.Forest.{Are, Part}
use Rattle.terms.specs.declared.forest.Trees.{Trees}
use Rattle.moves.specs.declared.scope.Scope.{Scope}
use Rattle.moves.specs.Renamings.{first_above}

-- the trees have at most so many cells
abbrev pub Fits : Trees → ℕ → Type 0
Fits trees most = (t : Row) → Are trees t → size t ≤ most

-- the trees under no binder
pub record Outer (trees : Trees) (s : Scope) : Type 0 where
  pub same : s.trees ≡ trees
  pub above : s.d ≡ 0
  pub last : s.b ≡ 0

-- the cell of the first tree, and its children, under the binders above them
pub record Inner (s : Scope) (c : ℕ) (i : Scope) : Type 0 where
  pub some : 1 ≤ s.trees.n
  pub cell : c ≡ slice_index_or s.trees.cells.now s.trees.at 0
  pub part : Part s.trees (s.trees.at + 1) (children c) i.trees
  pub above : i.d ≡ first_above s.trees.n s.d s.b
  pub last : i.b ≡ binder c

-- or there is no tree
abbrev pub Opens : Scope → Option (ℕ × Scope) → Type 0
Opens s (Some p) = Inner s p.0 p.1
Opens s None = s.trees.n ≡ 0

-- the trees after the first, which begin at a cell
pub record Rest (s : Scope) (next : ℕ) (r : Scope) : Type 0 where
  pub part : Part s.trees next (s.trees.n - 1) r.trees
  pub above : r.d ≡ s.d
  pub last : r.b ≡ s.b
