use Rattle.std.proofs.Common.{◌≡◌, rules}
use Rattle.std.proofs.lemmas.Result.{err_from_is_err_and}
use Rattle.runs.specs.Chain.{settling}
use Rattle.runs.proofs.Mapped.{mapped_ok, mapped_err}
use Rattle.runs.proofs.Handing.{settling_first, reading_performed}
use Rattle.runs.proofs.replay.make_settlement.Goals as goal

pub returns-in_err-settlement : goal.returns-in_err-settlement
returns-in_err-settlement g c =
    let p = err_from_is_err_and c.from_residual.result c.from_residual.ensures.1 in
    let q = mapped_err _ c.settle.result c.map_err.result _ c.map_err.ensures.cases c.in_err-settlement.was in
    let told : c.in_err-settlement.field-0.0 ≡ q.0.0 = search rules in
    let m = g.C.Calculus.meaning c.args.run.now.calculus in
    let number = c.args.number in
    let claim = c.args.claim.now in
    rw (p.1, p.2, told) (rw q.1 at (reading_performed m c.args.run.now c.settle.new.self c.args.table.now c.args.scratch.now c.args.walk.now c.args.lent c.clipped-l.result c.clipped-l.ensures (settling number claim) (λ l. settling_first m l number claim) _ c.settle.ensures.called))

pub returns : goal.returns
returns g c =
    let q = mapped_ok _ c.settle.result c.map_err.result c.in_ok-settlement.settlement c.map_err.ensures.cases c.in_ok-settlement.was in
    let m = g.C.Calculus.meaning c.args.run.now.calculus in
    let number = c.args.number in
    let claim = c.args.claim.now in
    rw q at (reading_performed m c.args.run.now c.settle.new.self c.args.table.now c.args.scratch.now c.args.walk.now c.args.lent c.clipped-l.result c.clipped-l.ensures (settling number claim) (λ l. settling_first m l number claim) _ c.settle.ensures.called)
