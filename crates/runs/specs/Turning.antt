-- Where an accepted call moves a run.
use Rattle.std.specs.Prelude.{◌≡◌, ℕ, List}
use Rattle.calculus.specs.declared.Calculus.{Ghosts}
use Rattle.runs.specs.Chain.{Chain}
use Rattle.runs.specs.declared.run.Run.{Run}
use Rattle.runs.specs.declared.call.State.{State}

-- the chain that a run has come to, if its table holds these cells
abbrev pub chain_at : {C : Type 0} {G : Ghosts C} → Run C G → List ℕ → Chain
chain_at run end = record { state = run.told.state; openings = run.told.openings; end = end; steps = run.told.steps }

-- the run keeps its calculus, and the rest of it is this
pub record Moves {C : Type 0} {G : Ghosts C} (run run' : Run C G) (state : State) (openings cells steps : ℕ) : Type 0 where
  pub calculus : run'.calculus ≡ run.calculus
  pub state_is : run'.told.state ≡ state
  pub openings_is : run'.told.openings ≡ openings
  pub cells_is : run'.told.cells ≡ cells
  pub steps_is : run'.told.steps ≡ steps
