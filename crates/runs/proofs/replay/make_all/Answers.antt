use Rattle.std.proofs.Common.{◌≡◌, ◌+◌, [], ◌∷◌, ◌++◌, vec_items, rules}
use Rattle.std.proofs.lemmas.Result.{err_from_is_err_and}
use Rattle.runs.specs.declared.call.Call.{Call}
use Rattle.runs.specs.declared.call.Call.TheVariants.{Open}
use Rattle.runs.proofs.Replays.{gone_none, gone_more, all_made, part_made}
use Rattle.runs.proofs.replay.make_all.Goals as goal

-- what an index past the calls would read
abbrev blank : Call
blank = Open (record { ref_ptr = (0, 0); now = [] }) (record { table = 0; scratch = 0; walk = 0 })

pub loop-call-init : goal.loop-call-init
loop-call-init g c =
    gone_none g.C.Calculus.meaning c.new-run.result c.args.table.now c.args.scratch.now c.args.walk.now c.args.calls.now _ c.new-run.ensures.fresh c.new-said.ensures.items

pub returns-in_err-push : goal.returns-in_err-push
returns-in_err-push g c =
    let p = err_from_is_err_and c.from_residual.result c.from_residual.ensures.1 in
    let l = c.loop-call in
    let gone = gone_more g.C.Calculus.meaning c.new-run.result l.run c.make-answer.new.run c.args.table.now l.table c.make-answer.new.table c.args.scratch.now l.scratch c.args.walk.now l.walk c.args.calls.now l.call-index blank (vec_items l.said) c.make-answer.result c.tell-tells.result l.invariant l.auto.table l.auto.scratch l.auto.walk c.make-answer.auto.table c.loop-call-test.true c.make-answer.ensures c.tell-tells.ensures in
    rw p.1 (part_made g.C.Calculus.meaning g.met.C.Calculus.laws c.args.calculus c.new-run.result c.make-answer.new.run c.args.table.now c.make-answer.new.table c.args.scratch.now c.args.walk.now c.args.calls.now (l.call-index + 1) _ c.new-run.ensures.same (c.new-run.ensures.fresh c.args.table.now) gone)

pub loop-call-preserved : goal.loop-call-preserved
loop-call-preserved g c =
    let l = c.loop-call in
    let pushed : vec_items c.push.new.self ≡ vec_items l.said ++ (record { answer = c.make-answer.result; tells = c.tell-tells.result } ∷ []) = search rules in
    rw pushed (gone_more g.C.Calculus.meaning c.new-run.result l.run c.make-answer.new.run c.args.table.now l.table c.make-answer.new.table c.args.scratch.now l.scratch c.args.walk.now l.walk c.args.calls.now l.call-index blank (vec_items l.said) c.make-answer.result c.tell-tells.result l.invariant l.auto.table l.auto.scratch l.auto.walk c.make-answer.auto.table c.loop-call-test.true c.make-answer.ensures c.tell-tells.ensures)

pub returns : goal.returns
returns g c =
    all_made g.C.Calculus.meaning g.met.C.Calculus.laws c.args.calculus c.new-run.result c.loop-call.run c.args.table.now c.loop-call.table c.args.scratch.now c.args.walk.now c.args.calls.now c.loop-call.call-index _ c.new-run.ensures.same (c.new-run.ensures.fresh c.args.table.now) c.loop-call.invariant c.loop-call-test.false
