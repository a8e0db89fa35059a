use Rattle.std.proofs.Common.{◌-◌, length}
use Rattle.moves.specs.Renamings.{renamed}
use Rattle.moves.proofs.Renames.{Begun}
use Rattle.moves.proofs.renaming.+rename_scope.Given as goal

abbrev pub decreases-rename_scope : goal.decreases-rename_scope
decreases-rename_scope l = length l.scope.trees.cells.now - l.scope.trees.at

abbrev pub invariant-loop-c : goal.invariant-loop-c
invariant-loop-c l = Begun (renamed l.how) l.scope l.rest l.fn.out l.out l.count

abbrev pub decreases-loop-c : goal.decreases-loop-c
decreases-loop-c l = length l.rest.trees.cells.now - l.rest.trees.at
