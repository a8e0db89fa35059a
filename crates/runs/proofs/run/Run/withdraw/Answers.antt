use Rattle.runs.proofs.Calling.{withdraw_refused}
use Rattle.runs.proofs.run.Run.withdraw.Goals as goal

pub returns-in-Err : goal.returns-in-Err
returns-in-Err g c = withdraw_refused (g.C.Calculus.meaning c.args.self.now.calculus) c.args.self.now c.args.ticket c.in-Err.refusal c.in-Err.ensures
