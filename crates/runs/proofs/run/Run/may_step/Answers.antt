use Rattle.std.proofs.Common.{◌≡◌, inr, rules}
use Rattle.std.proofs.lemmas.Result.{err_from_is_err_and}
use Rattle.runs.specs.declared.call.State.TheVariants.{Open}
use Rattle.runs.proofs.run.Run.may_step.Goals as goal

pub returns-in_err-cells : goal.returns-in_err-cells
returns-in_err-cells g c =
    let p = err_from_is_err_and c.from_residual-in_err-cells.result c.from_residual-in_err-cells.ensures.1 in
    let going : c.args.self.now.told.state ≡ Open = search rules in
    rw (p.1, p.2) (inr (going, inr (c.in_ok-held.ensures.0, c.in_err-cells.ensures.leads)))
