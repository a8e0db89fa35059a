use Rattle.std.proofs.Common.{◌≡◌, length, replicate, refl, rules}
use Rattle.runs.specs.Chain.{Enough}
use Rattle.runs.specs.Calls.{lent_of}
use Rattle.runs.proofs.Calling.{settle_at_1, settle_refused, settle_accepted}
use Rattle.runs.proofs.run.Run.settle.Goals as goal

pub returns-then-not-is_enough : goal.returns-then-not-is_enough
returns-then-not-is_enough g c =
    let little : Enough (lent_of c.args.table.now c.args.scratch.now c.args.walk.now) → ⊥ = search rules in
    settle_at_1 (g.C.Calculus.meaning c.args.self.now.calculus) c.args.self.now c.args.table.now c.args.scratch.now c.args.walk.now little c.args.ticket c.args.claim.now

pub returns : goal.returns
returns g c =
    let enough : Enough (lent_of c.args.table.now c.args.scratch.now c.args.walk.now) = search rules in
    let zeros : c.drop-clean-2.new.self.0 ≡ replicate (length c.args.scratch.now) 0 = search rules in
    settle_refused (g.C.Calculus.meaning c.args.self.now.calculus) c.args.self.now c.args.table.now c.args.scratch.now c.drop-clean-2.new.self.0 c.args.walk.now _ enough zeros c.args.ticket c.args.claim.now c.in-Err.refusal c.in-Err.ensures

pub returns-in-Ok : goal.returns-in-Ok
returns-in-Ok g c =
    let enough : Enough (lent_of c.args.table.now c.args.scratch.now c.args.walk.now) = search rules in
    let zeros : c.drop-clean.new.self.0 ≡ replicate (length c.args.scratch.now) 0 = search rules in
    settle_accepted (g.C.Calculus.meaning c.args.self.now.calculus) c.args.self.now c.args.table.now c.args.scratch.now c.drop-clean.new.self.0 c.args.walk.now _ enough zeros _ c.args.ticket c.args.claim.now c.compare.result c.in-Ok.ensures.1 (record { calculus = refl; state_is = c.in-Ok.ensures.0; openings_is = refl; cells_is = refl; steps_is = refl }) c.compare.ensures
