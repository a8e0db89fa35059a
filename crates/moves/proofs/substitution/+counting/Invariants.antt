use Rattle.std.proofs.Common.{◌+◌, ◌-◌, ◌*◌, length}
use Rattle.moves.proofs.Substitutes.{Spending}
use Rattle.moves.proofs.substitution.+counting.Given as goal

abbrev pub decreases-count_scope : goal.decreases-count_scope
decreases-count_scope l = 2 * (length l.scope.trees.cells.now - l.scope.trees.at) + 1

abbrev pub decreases-count_first : goal.decreases-count_first
decreases-count_first l = 2 * (length l.inner.trees.cells.now - l.inner.trees.at) + 2

abbrev pub invariant-count_scope-loop-c : goal.invariant-count_scope-loop-c
invariant-count_scope-loop-c l = Spending l.how l.scope l.rest l.room l.left

abbrev pub decreases-count_scope-loop-c : goal.decreases-count_scope-loop-c
decreases-count_scope-loop-c l = l.rest.trees.n
