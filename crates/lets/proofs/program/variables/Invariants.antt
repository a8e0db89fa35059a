use Rattle.std.proofs.Common.{◌≡◌, ℕ, ◌<◌, false, ltb, get_or}
use Rattle.lets.proofs.Countings.{Seen}
use Rattle.lets.proofs.program.variables.Given as goal

abbrev pub invariant-loop-c : goal.invariant-loop-c
invariant-loop-c l = Seen l.cells l.c-index l.n l.seen

abbrev pub invariant-loop-x : goal.invariant-loop-x
invariant-loop-x l = (y : ℕ) → y < l.x → get_or l.marked-items y false ≡ ltb y l.n
