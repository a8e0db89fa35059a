-- The parts of a term, as trees by themselves.
use Rattle.std.specs.Prelude.{◌≡◌, ◌+◌, ◌-◌, ◌≤◌, Some, None, Option}
use Rattle.terms.specs.Forest.{Part}
use Rattle.terms.specs.Rows.{Row, size}
use Rattle.terms.specs.Standing.{Stands}
use Rattle.terms.specs.declared.forest.Trees.{Trees}

-- of some trees the first
abbrev pub First : Trees → Option Trees → Type 0
First trees None = trees.n ≡ 0
First trees (Some part) = (1 ≤ trees.n) × Part trees trees.at 1 part

-- and those after it
abbrev pub Second : Trees → Option Trees → Type 0
Second trees None = trees.n ≡ 0
Second trees (Some part) = (1 ≤ trees.n) × ((a : Row) → Stands a 1 trees.cells.now trees.at → Part trees (trees.at + size a) (trees.n - 1) part)
