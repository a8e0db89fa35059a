-- What the words after "if" and "unless" ask.
use Rattle.std.specs.Prelude.{◌≡◌, ℕ, ◌+◌, ◌≤◌, true, false, ℤ, Some, None, Option, FitsSigned, ◌≢◌}
use Rattle.std.specs.Int.{w32}
use mir.Val.{of_z}
use Rattle.terms.specs.Cells.{kind}
use Rattle.terms.specs.Rows.{Row, size, var}
use Rattle.verse.specs.Syntax.{eqn, Val}
use Rattle.verse.specs.Contexts.{lies}
use Rattle.verse.specs.Lines.{Word}

-- the payload of an integer, or that it has none of 32 bits
abbrev pub Summed : ℤ → Option ℕ → Type 0
Summed z (Some k) = FitsSigned w32 z × (k ≡ of_z w32 z)
Summed z None = FitsSigned w32 z → ⊥

-- Of two heads by their cells: neither is a lambda, and only operators have the same cell.
abbrev pub Apart : ℕ → ℕ → Type 0
Apart c d = (kind c ≢ 4) × (kind d ≢ 4) × (c ≡ d → kind c ≡ 2)

-- y = v, a value, with y up to x
abbrev pub Early : ℕ → Row → Type 0
Early x q = (y : ℕ) × (v : Row) × Word y × Val v × (q ≡ eqn (var y) v) × (y ≤ x)

-- where the trees end, if x is none of them and lies in none under tuples
abbrev pub Clear : ℕ → Row → ℕ → Option ℕ → Type 0
Clear x t at (Some e) = (lies x t ≡ false) × (e ≡ at + size t)
Clear x t at None = lies x t ≡ true
