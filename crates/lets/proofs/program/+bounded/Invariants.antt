use Rattle.std.proofs.Common.{◌-◌, length}
use Rattle.terms.specs.Rows.{Row}
use Rattle.terms.specs.Forest.{Are}
use Rattle.lets.proofs.Bounds.{Passed}
use Rattle.lets.proofs.program.+bounded.Given as goal

abbrev pub decreases-bounded : goal.decreases-bounded
decreases-bounded l = length l.trees.cells.now - l.trees.at

abbrev pub invariant-loop-c : goal.invariant-loop-c
invariant-loop-c l = (t : Row) → Are l.trees t → Passed l.bound l.above l.more l.trees l.left t

abbrev pub decreases-loop-c : goal.decreases-loop-c
decreases-loop-c l = l.left.n
