-- Trees in the hands of the code.
use Rattle.std.specs.Prelude.{◌≡◌, ℕ, ◌+◌, ◌≤◌, Some, None, Option, slice_index_or}
use Rattle.terms.specs.Cells.{children}
use Rattle.terms.specs.Rows.{Row, size}
use Rattle.terms.specs.Standing.{Stands}
use Rattle.terms.specs.declared.forest.Trees.{Trees}

-- the row t is these trees
abbrev pub Are : Trees → Row → Type 0
Are trees t = Stands t trees.n trees.cells.now trees.at

-- of some trees, those of the same cells that begin at a cell, n of them
pub record Part (trees : Trees) (at n : ℕ) (part : Trees) : Type 0 where
  pub cells : part.cells.now ≡ trees.cells.now
  pub start : part.at ≡ at
  pub count : part.n ≡ n

-- the cell of the first, and its children
abbrev pub Headed : Trees → Option (ℕ × Trees) → Type 0
Headed trees None = trees.n ≡ 0
Headed trees (Some p) = (1 ≤ trees.n) × (p.0 ≡ slice_index_or trees.cells.now trees.at 0) × Part trees (trees.at + 1) (children p.0) p.1

-- the children of the first end there
abbrev pub Ended : Trees → ℕ → Type 0
Ended trees next = (ks : Row) → Stands ks (children (slice_index_or trees.cells.now trees.at 0)) trees.cells.now (trees.at + 1) → next ≡ trees.at + 1 + size ks
