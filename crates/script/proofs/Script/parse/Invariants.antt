use Rattle.std.specs.Prelude.{IfSome}
use Rattle.script.specs.Script.{HasSizes}
use Rattle.script.proofs.Script.parse.Given as goal

abbrev pub invariant-loop-i : goal.invariant-loop-i
invariant-loop-i l = IfSome l.script HasSizes
