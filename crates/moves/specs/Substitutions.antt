-- Trees put for the free variables of a row: what it takes, what it answers and what it writes.
use Rattle.std.specs.Prelude.{◌≡◌, ℕ, ◌+◌, ◌<◌, ◌≤◌, List, length, Some, None, Option}
use Rattle.terms.specs.Forest.{Are}
use Rattle.terms.specs.Rows.{Row, size, substitute}
use Rattle.terms.specs.Rows.Row.{none, node}
use Rattle.moves.specs.declared.images.Substitution.{Substitution}
use Rattle.moves.specs.declared.scope.Scope.{Scope}
use Rattle.moves.specs.Images.{Shows}
use Rattle.moves.specs.Moved.{Written}

-- a row that ends at a cell takes so many cells of the room: the end, and the room left, or else it has too many
abbrev pub Spent : ℕ → ℕ → ℕ → Option (ℕ × ℕ) → Type 0
Spent end taken room (Some v) = (v.0 ≡ end) × (v.1 + taken ≡ room)
Spent end taken room None = room < taken

-- There are trees to put for the variables of a scope, and the result has at most so many cells.
pub record Putting (scope : Scope) (how : Substitution) (most : ℕ) : Type 0 where
  pub row : Row
  pub stands : Are scope.trees row
  pub s : ℕ → Row
  pub shows : Shows how s
  pub small : size (substitute s scope.d scope.b row) ≤ most

-- the same of one tree, of the cell c and these children
pub record PuttingFirst (c : ℕ) (inner : Scope) (how : Substitution) (most : ℕ) : Type 0 where
  pub kids : Row
  pub stands : Are inner.trees kids
  pub s : ℕ → Row
  pub shows : Shows how s
  pub small : size (substitute s inner.d 0 (node c kids none)) ≤ most

-- the cell at which trees end, and how many cells are written, those of the row
pub record Substituted (end : ℕ) (new : Row) (out out' : List ℕ) (r : ℕ × ℕ) : Type 0 where
  pub ends : r.0 ≡ end
  pub wrote : Written new out out' r.1

-- the row is written, or it has more cells than the space, which stays
abbrev pub Put : Row → List ℕ → List ℕ → Option ℕ → Type 0
Put t space space' (Some n) = Written t space space' n
Put t space space' None = (space' ≡ space) × (length space < size t)
