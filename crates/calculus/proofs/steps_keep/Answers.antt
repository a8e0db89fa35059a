use Rattle.calculus.proofs.Keeping.{steps_keep}
use Rattle.calculus.proofs.steps_keep.Goals as goal

pub returns : goal.returns
returns g c = steps_keep _ (g.met.C.Calculus.laws c.args.calculus.now)
