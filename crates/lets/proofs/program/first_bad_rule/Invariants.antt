use Rattle.lets.proofs.Rulings.{SoFar}
use Rattle.lets.proofs.program.first_bad_rule.Given as goal

abbrev pub invariant-loop-number : goal.invariant-loop-number
invariant-loop-number l = SoFar l.cells l.number l.rest
