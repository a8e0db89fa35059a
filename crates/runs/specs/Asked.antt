-- What a function answers that asks some of the questions in order.
use Rattle.std.specs.Prelude.{◌≡◌, ℕ, ◌<◌, List, [], ◌∷◌, Ok, Err, Result}
use Rattle.terms.specs.Terms.{Laid}
use Rattle.calculus.specs.Meaning.{Meaning}
use Rattle.runs.specs.Questions.{Question, asks, AllYes, FirstNo}
use Rattle.runs.specs.Steps.{layout, lawful}
use Rattle.runs.specs.declared.call.State.{State}
use Rattle.runs.specs.declared.call.State.TheVariants.{Idle, Open}
use Rattle.runs.specs.declared.turning.Event.{Event}
use Rattle.runs.specs.declared.turning.Event.TheVariants as event
use Rattle.runs.specs.declared.refusal.Refusal.{Refusal}
use Rattle.runs.specs.declared.refusal.Refusal.TheVariants as no

-- every answer is yes, or this is the first no
abbrev pub Asked : {A : Type 0} → List (Question Refusal) → Result A Refusal → Type 0
Asked qs (Ok v) = AllYes qs
Asked qs (Err r) = FirstNo qs r

-- every answer is yes and this state is left, or this is the first no
abbrev pub Turned : State → List (Question Refusal) → Result State Refusal → Type 0
Turned next qs (Ok state) = (state ≡ next) × AllYes qs
Turned next qs (Err r) = FirstNo qs r

-- the state that a call leaves, if it is accepted
abbrev pub state_after : Event → State
state_after event.Open = Open
state_after event.Step = Open
state_after event.Settle = Idle
state_after event.Withdraw = Idle

-- 2 for an opening, 6 for the other calls
abbrev pub state_question : State → Event → Question Refusal
state_question state event.Open = asks (state ≡ Idle) no.NotIdle
state_question state event.Step = asks (state ≡ Open) no.NotOpen
state_question state event.Settle = asks (state ≡ Open) no.NotOpen
state_question state event.Withdraw = asks (state ≡ Open) no.NotOpen

-- 17
abbrev pub ticket_question : (number openings : ℕ) → List (Question Refusal)
ticket_question number openings = asks (number ≡ openings) no.WrongTicket ∷ []

-- 4
abbrev pub layout_question : List ℕ → List (Question Refusal)
layout_question cells = layout cells ∷ []

-- 4 and 5
abbrev pub term_questions : Meaning → List ℕ → List (Question Refusal)
term_questions m cells = layout cells ∷ lawful m cells ∷ []

-- 7
abbrev pub held_question : Meaning → List ℕ → List (Question Refusal)
held_question m cells = asks (Laid cells × m.lawful cells) no.Tampered ∷ []

-- 2 to 5
abbrev pub open_questions : Meaning → State → (openings : ℕ) (start : List ℕ) → List (Question Refusal)
open_questions m state openings start =
    state_question state event.Open ∷ asks (openings < 65535) no.Exhausted ∷ term_questions m start

-- 6 and 17
abbrev pub withdraw_questions : State → (number openings : ℕ) → List (Question Refusal)
withdraw_questions state number openings =
    state_question state event.Withdraw ∷ ticket_question number openings

-- 6, 17, 7, and the claim's 4 and 5
abbrev pub settle_questions : Meaning → State → (number openings : ℕ) (term claim : List ℕ) → List (Question Refusal)
settle_questions m state number openings term claim =
    state_question state event.Settle ∷ asks (number ≡ openings) no.WrongTicket ∷ asks (Laid term × m.lawful term) no.Tampered ∷ term_questions m claim
