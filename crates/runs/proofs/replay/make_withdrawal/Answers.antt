use Rattle.std.proofs.Common.{◌≡◌, rules}
use Rattle.std.proofs.lemmas.Result.{err_from_is_err_and}
use Rattle.runs.proofs.Mapped.{mapped_ok, mapped_err}
use Rattle.runs.proofs.Handing.{withdrawal_performed}
use Rattle.runs.proofs.replay.make_withdrawal.Goals as goal

pub returns-in_err-map_err : goal.returns-in_err-map_err
returns-in_err-map_err g c =
    let p = err_from_is_err_and c.from_residual.result c.from_residual.ensures.1 in
    let q = mapped_err _ c.withdraw.result c.map_err.result _ c.map_err.ensures.cases c.in_err-map_err.was in
    let told : c.in_err-map_err.field-0.0 ≡ q.0.0 = search rules in
    rw (p.1, p.2, told) (rw q.1 at (withdrawal_performed (g.C.Calculus.meaning c.args.run.now.calculus) c.args.run.now c.withdraw.new.self c.args.number _ c.withdraw.ensures.called c.args.table.now))

pub returns : goal.returns
returns g c =
    let q = mapped_ok _ c.withdraw.result c.map_err.result c.in_ok-map_err.field-0 c.map_err.ensures.cases c.in_ok-map_err.was in
    rw q at (withdrawal_performed (g.C.Calculus.meaning c.args.run.now.calculus) c.args.run.now c.withdraw.new.self c.args.number _ c.withdraw.ensures.called c.args.table.now)
