use Rattle.records.proofs.Passing.{Passed}
use Rattle.records.proofs.steps_amiss.Given as goal

abbrev pub invariant-loop : goal.invariant-loop
invariant-loop l = Passed l.bytes l.counter l.rest
