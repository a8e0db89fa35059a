-- What a call is answered.
use Rattle.std.specs.Prelude.{Result}
use Rattle.runs.specs.declared.call.Done.{Done}
use Rattle.runs.specs.declared.refusal.Refusal.{Refusal}

-- what it did, or why it is refused
abbrev pub Answer : Type 0
Answer = Result Done Refusal
