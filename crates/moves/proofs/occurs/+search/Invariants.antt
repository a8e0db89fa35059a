use Rattle.std.proofs.Common.{◌-◌, length}
use Rattle.moves.proofs.Seeks.{Sought}
use Rattle.moves.proofs.occurs.+search.Given as goal

abbrev pub decreases-search : goal.decreases-search
decreases-search l = length l.scope.trees.cells.now - l.scope.trees.at

abbrev pub invariant-loop-c : goal.invariant-loop-c
invariant-loop-c l = Sought l.x l.scope l.rest

abbrev pub decreases-loop-c : goal.decreases-loop-c
decreases-loop-c l = l.rest.trees.n
