use Rattle.std.proofs.lemmas.Result.{err_from_is_err_and}
use Rattle.runs.specs.Chain.{opening}
use Rattle.runs.proofs.Handing.{opening_first, handed_performed}
use Rattle.runs.proofs.replay.make_opening.Goals as goal

pub returns-in_err-ticket : goal.returns-in_err-ticket
returns-in_err-ticket g c =
    let p = err_from_is_err_and c.from_residual.result c.from_residual.ensures.1 in
    let m = g.C.Calculus.meaning c.args.run.now.calculus in
    let start = c.args.start.now in
    rw (p.1, p.2) (handed_performed m c.args.run.now c.open.new.self c.args.table.now c.open.new.table c.args.scratch.now c.args.walk.now c.args.lent c.clipped-l.result c.clipped-l.ensures c.open.auto.table (opening start) (λ l. opening_first m l start) _ c.in_err-ticket.ensures.called)

pub returns : goal.returns
returns g c =
    let m = g.C.Calculus.meaning c.args.run.now.calculus in
    let start = c.args.start.now in
    rw c.spend.ensures (handed_performed m c.args.run.now c.open.new.self c.args.table.now c.open.new.table c.args.scratch.now c.args.walk.now c.args.lent c.clipped-l.result c.clipped-l.ensures c.open.auto.table (opening start) (λ l. opening_first m l start) _ c.in_ok-ticket.ensures.called)
