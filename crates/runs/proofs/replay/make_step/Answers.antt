use Rattle.std.proofs.lemmas.Result.{err_from_is_err_and}
use Rattle.runs.specs.Chain.{stepping}
use Rattle.runs.specs.Rewriting.{step_of}
use Rattle.runs.proofs.Handing.{stepping_first, handed_performed}
use Rattle.runs.proofs.replay.make_step.Goals as goal

pub returns-in_err-step : goal.returns-in_err-step
returns-in_err-step g c =
    let p = err_from_is_err_and c.from_residual.result c.from_residual.ensures.1 in
    let m = g.C.Calculus.meaning c.args.run.now.calculus in
    let s = step_of c.args.step in
    rw (p.1, p.2) (handed_performed m c.args.run.now c.step.new.self c.args.table.now c.step.new.table c.args.scratch.now c.args.walk.now c.args.lent c.clipped-l.result c.clipped-l.ensures c.step.auto.table (stepping s) (λ l. stepping_first m l s) _ c.in_err-step.ensures.called)

pub returns : goal.returns
returns g c =
    let m = g.C.Calculus.meaning c.args.run.now.calculus in
    let s = step_of c.args.step in
    handed_performed m c.args.run.now c.step.new.self c.args.table.now c.step.new.table c.args.scratch.now c.args.walk.now c.args.lent c.clipped-l.result c.clipped-l.ensures c.step.auto.table (stepping s) (λ l. stepping_first m l s) _ c.in_ok-step.ensures.called
