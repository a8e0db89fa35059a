use Rattle.std.proofs.Common.{◌-◌, length}
use Rattle.verse_rules.proofs.Clears.{Clearing}
use Rattle.verse_rules.proofs.lying.+clear_of.Given as goal

abbrev pub decreases-clear_of : goal.decreases-clear_of
decreases-clear_of l = length l.trees.cells.now - l.trees.at

abbrev pub invariant-loop-c : goal.invariant-loop-c
invariant-loop-c l = Clearing l.x l.trees l.rest

abbrev pub decreases-loop-c : goal.decreases-loop-c
decreases-loop-c l = l.rest.n
