use Rattle.lets.proofs.Rulings.{so_far_more}
use Rattle.lets.proofs.program.first_bad_rule.Goals as goal

pub loop-number-preserved : goal.loop-number-preserved
loop-number-preserved c = so_far_more _ _ _ c.loop-number.invariant _ c.in-Some.ensures
