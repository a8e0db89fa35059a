-- What becomes of the free numbers of a term.
use Rattle.std.specs.Prelude.{ℕ, ◌+◌, ◌-◌, cond, Some, None, Option, ◌==◌}
use Rattle.moves.specs.declared.renaming.Renaming.{Renaming}
use Rattle.moves.specs.declared.renaming.Renaming.TheVariants.{Raise, Lower, Exchange, Beyond}
use Rattle.terms.specs.Cells.{payload, loose}
use Rattle.terms.specs.Rows.{exchanged, beyond}

-- what a free number becomes
abbrev pub renamed : Renaming → ℕ → ℕ
renamed (Raise n) x = x + n
renamed Lower x = x - 1
renamed Exchange x = exchanged x
renamed Beyond x = beyond x

-- by how much a number goes up at most
abbrev pub most : Renaming → ℕ
most (Raise n) = n
most Lower = 0
most Exchange = 1
most Beyond = 1

-- the free number of a cell under d binders, if it has one
abbrev pub free : ℕ → ℕ → Option ℕ
free d c = cond (loose d c) (Some (payload c - d)) None

-- So many binders lie above the first of n trees under d binders, the last one under b more.
abbrev pub first_above : ℕ → ℕ → ℕ → ℕ
first_above n d b = cond (n == 1) (d + b) d
