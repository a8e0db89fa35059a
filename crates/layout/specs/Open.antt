-- The cells that are open on a walk, as records: the nearest last.
use Rattle.std.specs.Prelude.{◌≡◌, ℕ, ◌+◌, ◌<◌, ◌≤◌, List, [], ◌∷◌, length, Some, None, Option, slice_index_or}
use Rattle.layout.specs.declared.Walk.{Walk}
use Rattle.terms.specs.Cells.{binder, children, payload, Variable, Fields}
use Rattle.terms.specs.Layout.{Parent, binders}

-- no record
abbrev pub blank : Walk
blank = record { left = 0; above = 0; last = 0 }

-- the cell c above its first child
abbrev pub first : ℕ → Parent
first c = record { cell = c; child = 0 }

-- The record of a cell above, if `up` lies above that cell: its children to come, the next among them, and the
-- binders above each of them but the last, and above the last.
pub record Stands (w : Walk) (p : Parent) (up : List Parent) : Type 0 where
  pub left : p.child + w.left ≡ children p.cell
  pub more : 1 ≤ w.left
  pub above : w.above ≡ binders up
  pub last : w.last ≡ binders up + binder p.cell

-- the first records are those of the cells above, the nearest last
abbrev pub Holds : List Walk → List Parent → Type 0
Holds walk [] = Unit {0}
Holds walk (p ∷ up) = Stands (slice_index_or walk (length up) blank) p up × Holds walk up

-- the first records are those of the cells above the cell that follows, if one does
abbrev pub Follows : List Walk → Option (List Parent) → Option ℕ → Type 0
Follows walk (Some up) (Some height) = (height ≡ length up) × Holds walk up
Follows walk (Some up) None = ⊥
Follows walk None (Some height) = ⊥
Follows walk None None = Unit {0}

-- good fields, and no free number of 1,024 or more under so many binders
pub record Good (c above : ℕ) : Type 0 where
  pub fields : Fields c
  pub near : Variable c → payload c < above + 1024
