-- What the layout judge answers.
use Rattle.std.specs.Prelude.{ℕ, ◌<◌, ◌≤◌, List, Ok, Err, Result}
use Rattle.layout.specs.declared.Fault.{Fault}
use Rattle.layout.specs.declared.Fault.TheVariants.{Memory, Cell}
use Rattle.terms.specs.Layout.{LayoutJudged}

-- With w walk records: too few, or the layout judged.
abbrev pub Answered : ℕ → List ℕ → Result (ℕ × ℕ) Fault → Type 0
Answered w cells (Ok v) = (256 ≤ w) × LayoutJudged cells (Ok v)
Answered w cells (Err Memory) = w < 256
Answered w cells (Err (Cell i)) = (256 ≤ w) × LayoutJudged cells (Err i)
