-- The text of what a run answers and tells.
use Rattle.std.specs.Prelude.{ℕ, List, ◌∷◌, ◌++◌, codes}
use Rattle.std.specs.Fmt.{decimal}
use Rattle.runs.specs.Numbers.{number_of, place_of}
use Rattle.runs.specs.declared.call.State.{State}
use Rattle.runs.specs.declared.call.State.TheVariants.{Idle, Open}
use Rattle.runs.specs.declared.call.Settlement.{Settlement}
use Rattle.runs.specs.declared.call.Settlement.TheVariants.{Reached, Differs}
use Rattle.runs.specs.declared.call.Done.{Done}
use Rattle.runs.specs.declared.call.Done.TheVariants.{Opened, Stepped, Settled, Withdrawn}
use Rattle.runs.specs.declared.call.Told.{Told}
use Rattle.runs.specs.declared.refusal.Refusal.{Refusal}

abbrev pub settlement_text : Settlement → List ℕ
settlement_text Reached = codes "reached"
settlement_text (Differs cell) = codes "different " ++ decimal cell

abbrev pub done_text : Done → List ℕ
done_text (Opened ticket) = codes "ticket " ++ decimal ticket
done_text Stepped = codes "done"
done_text (Settled v) = settlement_text v
done_text Withdrawn = codes "done"

-- the number of the question that says no, and the place told
abbrev pub refusal_text : Refusal → List ℕ
refusal_text r = codes "no " ++ (decimal (number_of r) ++ (32 ∷ decimal (place_of r)))

abbrev pub state_text : State → List ℕ
state_text Idle = codes "idle"
state_text Open = codes "open"

abbrev pub told_text : Told → List ℕ
told_text t =
    state_text t.state ++ (32 ∷ (decimal t.openings ++ (32 ∷ (decimal t.steps ++ (32 ∷ decimal t.cells)))))
