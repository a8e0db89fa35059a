use Rattle.std.proofs.Common.{◌≡◌, length, replicate, refl, rules}
use Rattle.std.proofs.lemmas.Result.{err_from_is_err_and}
use Rattle.runs.specs.Chain.{Enough}
use Rattle.runs.specs.Calls.{lent_of}
use Rattle.runs.proofs.Calling.{open_at_1, open_refused, open_accepted}
use Rattle.runs.proofs.run.Run.open.Goals as goal

pub returns-then-not-is_enough : goal.returns-then-not-is_enough
returns-then-not-is_enough g c =
    let little : Enough (lent_of c.args.table.now c.args.scratch.now c.args.walk.now) → ⊥ = search rules in
    open_at_1 (g.C.Calculus.meaning c.args.self.now.calculus) c.args.self.now c.args.table.now c.args.scratch.now c.args.walk.now little c.args.start.now

pub returns-in_err-next : goal.returns-in_err-next
returns-in_err-next g c =
    let p = err_from_is_err_and c.from_residual.result c.from_residual.ensures.1 in
    let enough : Enough (lent_of c.args.table.now c.args.scratch.now c.args.walk.now) = search rules in
    let zeros : c.drop-clean.new.self.0 ≡ replicate (length c.args.scratch.now) 0 = search rules in
    rw (p.1, p.2) (open_refused (g.C.Calculus.meaning c.args.self.now.calculus) c.args.self.now c.args.table.now c.args.scratch.now c.drop-clean.new.self.0 c.args.walk.now _ enough zeros c.args.start.now _ c.in_err-next.ensures)

pub returns : goal.returns
returns g c =
    let enough : Enough (lent_of c.args.table.now c.args.scratch.now c.args.walk.now) = search rules in
    let zeros : c.drop-clean-2.new.self.0 ≡ replicate (length c.args.scratch.now) 0 = search rules in
    open_accepted (g.C.Calculus.meaning c.args.self.now.calculus) c.args.self.now c.args.table.now c.args.scratch.now c.drop-clean-2.new.self.0 c.args.walk.now _ enough zeros _ c.args.start.now c.put.new.table c.in_ok-next.ensures.1 (record { calculus = refl; state_is = c.in_ok-next.ensures.0; openings_is = refl; cells_is = refl; steps_is = refl }) c.put.ensures
