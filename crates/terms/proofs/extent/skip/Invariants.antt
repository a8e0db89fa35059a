use Rattle.std.proofs.Common.{◌-◌, length}
use Rattle.terms.proofs.Skips.{Carries}
use Rattle.terms.proofs.extent.skip.Given as goal

abbrev pub invariant-loop-due : goal.invariant-loop-due
invariant-loop-due l = Carries l.n l.at l.due l.end l.cells

abbrev pub decreases-loop-due : goal.decreases-loop-due
decreases-loop-due l = length l.cells - l.end
