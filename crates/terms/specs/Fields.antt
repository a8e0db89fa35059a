-- A cell taken apart into its fields, and put together again.
use Rattle.std.specs.Prelude.{◌≡◌, ℕ, ◌+◌, ◌*◌, ◌^◌, ◌≤◌, cond, ◌⊎◌, Ok, Err, Result}
use Rattle.terms.specs.declared.cell.Oversized.{Oversized}
use Rattle.terms.specs.declared.cell.Cell.{Cell}
use Rattle.terms.specs.Cells.{kind, binder, children, zeros, payload}

-- the number with these fields
abbrev pub packed : Cell → ℕ
packed f = f.kind * 2 ^ 58 + cond f.binder 1 0 * 2 ^ 57 + f.children * 2 ^ 48 + f.zeros * 2 ^ 32 + f.payload

-- These are the fields of c, and c is the number with these fields.
pub record Taken (c : ℕ) (f : Cell) : Type 0 where
  pub kind_is : f.kind ≡ kind c
  pub binder_is : cond f.binder 1 0 ≡ binder c
  pub children_is : f.children ≡ children c
  pub zeros_is : f.zeros ≡ zeros c
  pub payload_is : f.payload ≡ payload c
  pub whole : c ≡ packed f

-- the cell has just these fields; there is none exactly where the kind passes 6 bits or the children 9
abbrev pub Packed : Cell → Result ℕ Oversized → Type 0
Packed f (Ok c) = Taken c f
Packed f (Err e) = (64 ≤ f.kind) ⊎ (512 ≤ f.children)
