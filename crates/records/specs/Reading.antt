-- What is read of steps in bytes.
use Rattle.std.specs.Prelude.{◌≡◌, ℕ, List, ◌++◌, length, Some, None, Option}
use Rattle.std.specs.Borrow.{Bor}
use Rattle.cell_bytes.specs.Spelling.{spell}
use Rattle.cell_bytes.specs.Holding.{Lacking, Measured}
use Rattle.runs.specs.Rewriting.{step_of}
use Rattle.runs.specs.Steps.{Step}
use Rattle.runs.specs.declared.step.Step.{Step as StepOf}
use Rattle.records.specs.Records.{spell_step, Spelt, Steps}

-- A whole step stands at the front of the bytes, and these others behind it.
pub record Stands (bytes : List ℕ) (s : Step) (rest : List ℕ) : Type 0 where
  pub spelt : Spelt s
  pub reads : bytes ≡ spell_step s ++ rest

-- the step that stands there, or none where the bytes are a step's, but for the last
abbrev pub StepRead : List ℕ → Option (StepOf × Bor (List ℕ)) → Type 0
StepRead bytes (Some (s, rest)) = Stands bytes (step_of s) rest.now
StepRead bytes None = Lacking Spelt spell_step bytes (length bytes)

-- the byte told of bytes that are to hold so many steps, or none
abbrev pub StepsMeasured : ℕ → List ℕ → Option ℕ → Type 0
StepsMeasured n bytes r = Measured (Steps n) (spell spell_step) bytes r
