-- One call among others, made with what it is handed of the memory.
use Rattle.std.specs.Prelude.{ℕ, ◌≤◌, List, length}
use Rattle.calculus.specs.declared.Calculus.{Ghosts}
use Rattle.calculus.specs.Meaning.{Meaning}
use Rattle.runs.specs.Chain.{Event}
use Rattle.runs.specs.Calls.{Called}
use Rattle.runs.specs.declared.run.Run.{Run}
use Rattle.runs.specs.Answers.{Answer}

-- The call keeps its contract, and the cells that the run tells stay within the table.
pub record Performed {C : Type 0} {G : Ghosts C} (m : Meaning) (run run' : Run C G) (table table' : List ℕ) (e : Event) (a : Answer) : Type 0 where
  pub called : Called m run run' table table' e a
  pub fits : run.told.cells ≤ length table → run'.told.cells ≤ length table
