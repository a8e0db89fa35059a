use Rattle.std.proofs.Common.{◌+◌, ◌-◌, ◌*◌, length}
use Rattle.moves.proofs.Substitutes.{Filled}
use Rattle.moves.proofs.substitution.+substituting.Given as goal

abbrev pub decreases-substitute_scope : goal.decreases-substitute_scope
decreases-substitute_scope l = 2 * (length l.scope.trees.cells.now - l.scope.trees.at) + 1

abbrev pub decreases-substitute_first : goal.decreases-substitute_first
decreases-substitute_first l = 2 * (length l.inner.trees.cells.now - l.inner.trees.at) + 2

abbrev pub invariant-substitute_scope-loop-c : goal.invariant-substitute_scope-loop-c
invariant-substitute_scope-loop-c l = Filled l.how l.scope l.rest l.fn.out l.out l.count

abbrev pub decreases-substitute_scope-loop-c : goal.decreases-substitute_scope-loop-c
decreases-substitute_scope-loop-c l = l.rest.trees.n
