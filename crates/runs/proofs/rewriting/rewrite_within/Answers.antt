use Rattle.std.proofs.Common.{◌≡◌, ◌≤◌, length, take, inl, inr, arith, rules}
use Rattle.std.proofs.lemmas.List.{length-take-le}
use Rattle.std.proofs.lemmas.Result.{err_from_is_err_and}
use Rattle.runs.specs.Rewriting.{step_of}
use Rattle.runs.specs.declared.refusal.Refusal.TheVariants as no
use Rattle.runs.proofs.Mapped.{mapped_ok, mapped_err}
use Rattle.runs.proofs.Rewritings.{given_stands, given_no, over_long, leads_there, over_deep}
use Rattle.runs.proofs.rewriting.rewrite_within.Goals as goal

pub returns-in_err-parts : goal.returns-in_err-parts
returns-in_err-parts g c =
    let p = err_from_is_err_and c.from_residual.result c.from_residual.ensures.1 in
    record { leads = rw (p.1, p.2) c.in_err-parts.ensures; cells = search rules }

pub returns-in_err-n : goal.returns-in_err-n
returns-in_err-n g c =
    let p = err_from_is_err_and c.from_residual-in_err-n.result c.from_residual-in_err-n.ensures.1 in
    record { leads = rw (p.1, p.2) (given_no (g.C.Calculus.meaning c.args.calculus.now) (g.met.C.Calculus.laws c.args.calculus.now) c.args.term.now (step_of c.args.step) c.in_ok-parts.parts.left.now c.in_ok-parts.parts.redex.now c.in_ok-parts.parts.right.now c.in_ok-parts.ensures _ c.step.new.space c.step.result c.map_err.result _ c.step.ensures c.map_err.ensures.cases _ c.in_err-n.was c.told-space (λ e d k. search rules)); cells = search rules }

pub returns-then-cells-gt-CELLS_MOST : goal.returns-then-cells-gt-CELLS_MOST
returns-then-cells-gt-CELLS_MOST g c =
    let n = c.in_ok-n.n in
    let h = given_stands (g.C.Calculus.meaning c.args.calculus.now) (g.met.C.Calculus.laws c.args.calculus.now) c.args.term.now (step_of c.args.step) c.in_ok-parts.parts.left.now c.in_ok-parts.parts.redex.now c.in_ok-parts.parts.right.now c.in_ok-parts.ensures _ c.step.new.space c.step.result c.map_err.result _ c.step.ensures c.map_err.ensures.cases n c.in_ok-n.was in
    let room : n ≤ length c.step.new.space = omega (arith, h.1) in
    record { leads = over_long (g.C.Calculus.meaning c.args.calculus.now) (g.met.C.Calculus.laws c.args.calculus.now) c.args.term.now (step_of c.args.step) c.in_ok-parts.parts.left.now c.in_ok-parts.parts.redex.now c.in_ok-parts.parts.right.now c.in_ok-parts.ensures n (take n c.step.new.space) h.0 (length-take-le n c.step.new.space room) (omega arith); cells = search rules }

pub returns-in_err-map_err : goal.returns-in_err-map_err
returns-in_err-map_err g c =
    let n = c.in_ok-n.n in
    let h = given_stands (g.C.Calculus.meaning c.args.calculus.now) (g.met.C.Calculus.laws c.args.calculus.now) c.args.term.now (step_of c.args.step) c.in_ok-parts.parts.left.now c.in_ok-parts.parts.redex.now c.in_ok-parts.parts.right.now c.in_ok-parts.ensures _ c.step.new.space c.step.result c.map_err.result _ c.step.ensures c.map_err.ensures.cases n c.in_ok-n.was in
    let room : n ≤ length c.step.new.space = omega (arith, h.1) in
    let p = err_from_is_err_and c.from_residual-in_err-map_err.result c.from_residual-in_err-map_err.ensures.1 in
    let q = mapped_err _ c.kept.result c.map_err-2.result _ c.map_err-2.ensures.cases c.in_err-map_err.was in
    let told : c.in_err-map_err.field-0.0 ≡ no.TooDeep (length c.in_ok-parts.parts.left.now) = search rules in
    let broken = rw q.1 at c.kept.ensures in
    record { leads = rw (p.1, p.2, told) (over_deep (g.C.Calculus.meaning c.args.calculus.now) (g.met.C.Calculus.laws c.args.calculus.now) c.args.term.now (step_of c.args.step) c.in_ok-parts.parts.left.now c.in_ok-parts.parts.redex.now c.in_ok-parts.parts.right.now c.in_ok-parts.ensures n (take n c.step.new.space) h.0 (length-take-le n c.step.new.space room) c.requires (omega arith) _ c.surround.ensures (λ l. elim broken [ inl b ↦ b.1.broken l | inr k ↦ k.1 ])); cells = search rules }

pub returns : goal.returns
returns g c =
    let n = c.in_ok-n.n in
    let h = given_stands (g.C.Calculus.meaning c.args.calculus.now) (g.met.C.Calculus.laws c.args.calculus.now) c.args.term.now (step_of c.args.step) c.in_ok-parts.parts.left.now c.in_ok-parts.parts.redex.now c.in_ok-parts.parts.right.now c.in_ok-parts.ensures _ c.step.new.space c.step.result c.map_err.result _ c.step.ensures c.map_err.ensures.cases n c.in_ok-n.was in
    let room : n ≤ length c.step.new.space = omega (arith, h.1) in
    let kept = rw (mapped_ok _ c.kept.result c.map_err-2.result c.in_ok-map_err.field-0 c.map_err-2.ensures.cases c.in_ok-map_err.was) at c.kept.ensures in
    record { leads = (leads_there (g.C.Calculus.meaning c.args.calculus.now) (g.met.C.Calculus.laws c.args.calculus.now) c.args.term.now (step_of c.args.step) c.in_ok-parts.parts.left.now c.in_ok-parts.parts.redex.now c.in_ok-parts.parts.right.now c.in_ok-parts.ensures n (take n c.step.new.space) h.0 (length-take-le n c.step.new.space room) c.requires (omega arith) _ c.surround.ensures kept.0, omega arith); cells = search rules }
