-- What the checker of a single term answers.
use Rattle.std.specs.Prelude.{◌≡◌, ℕ, ◌^◌, ◌<◌, ◌≤◌, ◌⊎◌, List, [], ◌∷◌, ◌++◌, length, Result, Ok, Err}
use Rattle.terms.specs.Lists.{All}
use Rattle.terms.specs.Terms.{Laid}
use Rattle.terms.specs.Layout.{LayoutJudged}
use Rattle.cell_bytes.specs.Spelling.{spell, spell_cell, CellsRead}
use Rattle.layout.specs.declared.Fault.{Fault}
use Rattle.layout.specs.declared.Fault.TheVariants.{Memory, Cell}

-- The bytes spell these cells, and fewer than eight bytes are left.
pub record Spells (bytes cells rest : List ℕ) : Type 0 where
  pub words : All (λ c. c < 2 ^ 64) cells
  pub spelt : bytes ≡ spell spell_cell cells ++ rest
  pub short : length rest < 8

-- The first wrong cell, else the count. Where bytes are left over, they begin a cell that is wrong by itself.
abbrev pub Bad : List ℕ → List ℕ → ℕ → Type 0
Bad cells [] i = LayoutJudged cells (Err i)
Bad cells (b ∷ bs) i = LayoutJudged cells (Err i) ⊎ (Laid cells × (i ≡ length cells))

-- By the room for cells and for walk records, and the bytes.
abbrev pub TermJudged : (room records : ℕ) → List ℕ → Result (ℕ × ℕ) Fault → Type 0
TermJudged room records bytes (Err Memory) = (room < 2049) ⊎ (records < 256)
TermJudged room records bytes (Ok v) =
    (2049 ≤ room) × (256 ≤ records) × ((cells : List ℕ) × Spells bytes cells [] × LayoutJudged cells (Ok v))
TermJudged room records bytes (Err (Cell i)) =
    (2049 ≤ room) × (256 ≤ records) × ((cells rest : List ℕ) × Spells bytes cells rest × Bad cells rest i)

-- The memory for cells holds those that were read, and is not altered where it does not suffice.
abbrev pub CellsLeft : (bytes old new : List ℕ) → Result (ℕ × ℕ) Fault → Type 0
CellsLeft bytes old new (Err Memory) = new ≡ old
CellsLeft bytes old new (Ok v) = CellsRead bytes old new v.0
CellsLeft bytes old new (Err (Cell i)) = (n : ℕ) × CellsRead bytes old new n
