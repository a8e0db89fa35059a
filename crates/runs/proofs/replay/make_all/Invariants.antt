use Rattle.std.proofs.Common.{vec_items}
use Rattle.runs.proofs.Replays.{Gone}
use Rattle.runs.proofs.replay.make_all.Given as goal

abbrev pub invariant-loop-call : goal.invariant-loop-call
invariant-loop-call g l =
    Gone g.C.Calculus.meaning l.initial.run l.initial.table l.initial.scratch l.initial.walk l.calls l.call-index (vec_items l.said) l.run l.table
