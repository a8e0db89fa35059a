use Rattle.script.specs.Script.{Goes}
use Rattle.script.proofs.read.Given as goal

abbrev pub invariant-loop-word : goal.invariant-loop-word
invariant-loop-word l = Goes l.initial.script l.script
