-- Light terms, told by their cells one by one.
use Rattle.std.specs.Prelude.{◌≡◌, ℕ, Bool, ◌||◌, List, replicate, ◌==◌}
use Rattle.terms.specs.Cells.{kind}
use Rattle.terms.specs.Rows.{Row, flat}
use Rattle.lets.specs.Syntax.{Lawful, light}
use Rattle.lets.specs.Syntax.Sort.{term}

-- a variable, a constructor or a marked function
abbrev pub light_cell : ℕ → Bool
light_cell c = kind c == 0 || (kind c == 32 || kind c == 34)

-- of lawful terms that cells spell side by side: are they all light?
abbrev pub LightAsked : List ℕ → Bool → Type 0
LightAsked cells r = (n : ℕ) (t : Row) → Lawful (replicate n term) t → flat t ≡ cells → r ≡ light t
