use Rattle.std.proofs.Common.{◌≡◌, ◌≤◌, length, replicate, sym, refl, ◌∙◌, arith, rules}
use Rattle.std.proofs.lemmas.List.{length-take-le}
use Rattle.std.proofs.lemmas.Result.{err_from_is_err_and}
use Rattle.runs.specs.Chain.{Enough}
use Rattle.runs.specs.Calls.{lent_of}
use Rattle.runs.specs.Rewriting.{step_of}
use Rattle.runs.proofs.Calling.{step_at_1, step_refused, step_accepted}
use Rattle.runs.proofs.run.Run.step.Goals as goal

pub returns-then-not-is_enough : goal.returns-then-not-is_enough
returns-then-not-is_enough g c =
    let little : Enough (lent_of c.args.table.now c.args.scratch.now c.args.walk.now) → ⊥ = search rules in
    step_at_1 (g.C.Calculus.meaning c.args.self.now.calculus) c.args.self.now c.args.table.now c.args.scratch.now c.args.walk.now little (step_of c.args.step)

pub returns-in_err-next : goal.returns-in_err-next
returns-in_err-next g c =
    let p = err_from_is_err_and c.from_residual.result c.from_residual.ensures.1 in
    let enough : Enough (lent_of c.args.table.now c.args.scratch.now c.args.walk.now) = search rules in
    let zeros : c.drop-clean.new.self.0 ≡ replicate (length c.args.scratch.now) 0 = search rules in
    rw (p.1, p.2) (step_refused (g.C.Calculus.meaning c.args.self.now.calculus) c.args.self.now c.args.table.now c.args.scratch.now c.drop-clean.new.self.0 c.args.walk.now _ enough zeros (step_of c.args.step) c.may_step.new.space _ c.in_err-next.ensures)

pub returns : goal.returns
returns g c =
    let enough : Enough (lent_of c.args.table.now c.args.scratch.now c.args.walk.now) = search rules in
    let zeros : c.drop-clean-2.new.self.0 ≡ replicate (length c.args.scratch.now) 0 = search rules in
    let y = c.in_ok-next.ensures in
    let n = c.in_ok-next.cells in
    let space = c.may_step.new.space in
    let few : n ≤ length space = omega (arith, y.4) in
    step_accepted (g.C.Calculus.meaning c.args.self.now.calculus) c.args.self.now c.args.table.now c.args.scratch.now c.drop-clean-2.new.self.0 c.args.walk.now _ enough zeros _ (step_of c.args.step) space c.put.new.table c.in_ok-next.next n y (record { calculus = refl; state_is = y.0 ∙ sym y.1; openings_is = refl; cells_is = refl; steps_is = c.saturating_add.ensures }) (length-take-le n space few) c.put.ensures
