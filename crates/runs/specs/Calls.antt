-- What each single call answers and leaves, on any run and any memory.
use Rattle.std.specs.Prelude.{◌≡◌, ℕ, min, List, [], ◌∷◌, map, length, take, replicate, Ok, Err, Result}
use Rattle.calculus.specs.declared.Calculus.{Ghosts}
use Rattle.layout.specs.declared.Walk.{Walk}
use Rattle.calculus.specs.Meaning.{Meaning}
use Rattle.runs.specs.Steps.{Step}
use Rattle.runs.specs.Chain.{Chain, Event, opening, stepping, settling, withdrawing, held, TurnBy}
use Rattle.runs.specs.Theorem.{laid}
use Rattle.runs.specs.Rewriting.{step_of}
use Rattle.runs.specs.declared.run.Run.{Run}
use Rattle.runs.specs.declared.ticket.Ticket.{Ticket}
use Rattle.runs.specs.declared.call.Call.{Call}
use Rattle.runs.specs.declared.call.Call.TheVariants as call
use Rattle.runs.specs.declared.call.Lent.{Lent}
use Rattle.runs.specs.declared.call.Settlement.{Settlement}
use Rattle.runs.specs.Answers.{Answer}
use Rattle.runs.specs.declared.call.Done.TheVariants.{Opened, Stepped, Settled, Withdrawn}
use Rattle.runs.specs.declared.refusal.Refusal.{Refusal}
use Rattle.runs.specs.declared.refusal.Refusal.TheVariants as no

-- what a call is handed of the memory there is
abbrev pub handed : Lent → Lent → Lent
handed all lent =
    record { table = min lent.table all.table; scratch = min lent.scratch all.scratch; walk = min lent.walk all.walk }

-- a call of the program, as the chain is fed it
abbrev pub event_of : Lent → Call → Event
event_of all (call.Open start lent) = opening start.now (handed all lent)
event_of all (call.Step step lent) = stepping (step_of step) (handed all lent)
event_of all (call.Settle ticket claim lent) = settling ticket claim.now (handed all lent)
event_of all (call.Withdraw ticket) = withdrawing ticket

-- the chain that a run and its table have come to
abbrev pub chain_of : {C : Type 0} {G : Ghosts C} → Run C G → List ℕ → Chain
chain_of run table =
    record { state = run.told.state; openings = run.told.openings; end = take run.told.cells table; steps = run.told.steps }

-- The table after an answer: an accepted opening or step puts the end there, nothing else alters it.
abbrev pub table_after : Answer → List ℕ → List ℕ → List ℕ
table_after (Ok (Opened n)) end table = laid end table
table_after (Ok Stepped) end table = laid end table
table_after (Ok (Settled v)) end table = table
table_after (Ok Withdrawn) end table = table
table_after (Err r) end table = table

-- What a call leaves, whatever the run and the memory: the run keeps its calculus and turns as its table says.
pub record Called {C : Type 0} {G : Ghosts C} (m : Meaning) (run run' : Run C G) (table table' : List ℕ) (e : Event) (a : Answer) : Type 0 where
  pub calculus : run'.calculus ≡ run.calculus
  pub turn : TurnBy m (held m (chain_of run table) ∷ []) (chain_of run table) e a (chain_of run' table')
  pub refused : (r : Refusal) → a ≡ Err r → run'.told.cells ≡ run.told.cells
  pub table_is : table' ≡ table_after a (take run'.told.cells table') table

-- What is left of scratch and walk list: after every answer but 1 each scratch cell is zero, and at 1 nothing is altered.
pub record Cleared (at_1 : Type 0) (scratch scratch' : List ℕ) (walk walk' : List Walk) : Type 0 where
  pub zeros : (at_1 → ⊥) → scratch' ≡ replicate (length scratch) 0
  pub stays : at_1 → (scratch' ≡ scratch) × (walk' ≡ walk)

-- the memory handed to a call
abbrev pub lent_of : List ℕ → List ℕ → List Walk → Lent
lent_of table scratch walk = record { table = length table; scratch = length scratch; walk = length walk }

-- the answers of the four calls
abbrev pub opening_said : Result Ticket Refusal → Answer
opening_said (Ok ticket) = Ok (Opened ticket.number)
opening_said (Err r) = Err r

abbrev pub step_said : Result (Unit {0}) Refusal → Answer
step_said (Ok u) = Ok Stepped
step_said (Err r) = Err r

abbrev pub settlement_said : Result Settlement (Refusal × Ticket) → Answer
settlement_said (Ok v) = Ok (Settled v)
settlement_said (Err p) = Err p.0

abbrev pub withdrawal_said : Result (Unit {0}) (Refusal × Ticket) → Answer
withdrawal_said (Ok u) = Ok Withdrawn
withdrawal_said (Err p) = Err p.0

-- a refused call hands the ticket back
abbrev pub HandedBack : {A : Type 0} → Ticket → Result A (Refusal × Ticket) → Type 0
HandedBack ticket (Ok v) = Unit {0}
HandedBack ticket (Err p) = p.1 ≡ ticket

module _ {C : Type 0} {G : Ghosts C} (m : Meaning) (run run' : Run C G) where
  pub record OpenAsked (start table table' scratch scratch' : List ℕ) (walk walk' : List Walk) (r : Result Ticket Refusal) : Type 0 where
    pub called : Called m run run' table table' (opening start (lent_of table scratch walk)) (opening_said r)
    pub cleared : Cleared (opening_said r ≡ Err no.Memory) scratch scratch' walk walk'

  pub record StepAsked (s : Step) (table table' scratch scratch' : List ℕ) (walk walk' : List Walk) (r : Result (Unit {0}) Refusal) : Type 0 where
    pub called : Called m run run' table table' (stepping s (lent_of table scratch walk)) (step_said r)
    pub cleared : Cleared (step_said r ≡ Err no.Memory) scratch scratch' walk walk'

  -- settlement is lent the table to read only
  pub record SettleAsked (ticket : Ticket) (claim table scratch scratch' : List ℕ) (walk walk' : List Walk) (r : Result Settlement (Refusal × Ticket)) : Type 0 where
    pub called : Called m run run' table table (settling ticket.number claim (lent_of table scratch walk)) (settlement_said r)
    pub cleared : Cleared (settlement_said r ≡ Err no.Memory) scratch scratch' walk walk'
    pub ticket_back : HandedBack ticket r

  -- withdrawal is handed no memory, so that this holds of every table
  pub record WithdrawAsked (ticket : Ticket) (r : Result (Unit {0}) (Refusal × Ticket)) : Type 0 where
    pub called : (table : List ℕ) → Called m run run' table table (withdrawing ticket.number) (withdrawal_said r)
    pub ticket_back : HandedBack ticket r

-- the calls of the program, made one after the other on a fresh run with this memory
abbrev pub events_of : List ℕ → List ℕ → List Walk → List Call → List Event
events_of table scratch walk calls = map (event_of (lent_of table scratch walk)) calls
