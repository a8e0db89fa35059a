use Rattle.std.proofs.Common.{◌≡◌, length}
use Rattle.layout.proofs.Turns.{Reached}
use Rattle.layout.proofs.laid.Given as goal

abbrev pub invariant-loop-i : goal.invariant-loop-i
invariant-loop-i l = record { reached : Reached l.cells l.i l.walk l.coming l.deepest; records : length l.walk ≡ 256 }
