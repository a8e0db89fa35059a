use Rattle.std.proofs.Common.{rules, ◌≡◌, None, Err, Some, sym, subst, arith}
use Rattle.std.proofs.lemmas.Bool.Decides.{not_from_Decides}
use Rattle.terms.specs.Layout.{LayoutJudged, past}
use Rattle.layout.proofs.Turns.{above, ended, no_room_wrong, bad_wrong, reached_more, broken_at, runs_out, keeps, all_at}
use Rattle.layout.proofs.Opens.{binders_le, held_front}
use Rattle.layout.proofs.laid.Goals as goal

pub returns-in_err-height-clause-judged : goal.returns-in_err-height-clause-judged
returns-in_err-height-clause-judged c =
    let s = c.loop-i.invariant.reached in
    let none : c.loop-i.coming ≡ None = search rules in
    let is : c.from_residual.result ≡ Err c.loop-i.i = search rules in
    subst (LayoutJudged c.args.cells.now) (sym is) (broken_at _ _ _ _ _ s c.loop-i-test.true (past (ended _ _ _ _ _ none s)))

pub returns-then-not-has_room-clause-judged : goal.returns-then-not-has_room-clause-judged
returns-then-not-has_room-clause-judged c =
    let s = c.loop-i.invariant.reached in
    let some : c.loop-i.coming ≡ Some c.in_ok-height.height = search rules in
    let a = above _ _ _ _ _ _ some s in
    broken_at _ _ _ _ _ s c.loop-i-test.true (no_room_wrong _ _ _ a.up s.few a.is a.high (not_from_Decides _ c.has_room.ensures c.if-not-has_room.true))

pub returns-then-not-is_good-clause-judged : goal.returns-then-not-is_good-clause-judged
returns-then-not-is_good-clause-judged c =
    let s = c.loop-i.invariant.reached in
    let some : c.loop-i.coming ≡ Some c.in_ok-height.height = search rules in
    let a = above _ _ _ _ _ _ some s in
    let h = held_front _ _ a.up a.high a.holds in
    let b = c.binders_above-above.ensures a.up h.0 h.1 in
    broken_at _ _ _ _ _ s c.loop-i-test.true (bad_wrong _ _ a.up _ a.is b (not_from_Decides _ c.is_good.ensures c.if-not-is_good.true))

pub pass-coming-requires-clause-few : goal.pass-coming-requires-clause-few
pass-coming-requires-clause-few c =
    let s = c.loop-i.invariant.reached in
    let some : c.loop-i.coming ≡ Some c.in_ok-height.height = search rules in
    let a = above _ _ _ _ _ _ some s in
    let h = held_front _ _ a.up a.high a.holds in
    let b = c.binders_above-above.ensures a.up h.0 h.1 in
    let room = c.has_room.ensures.0 c.if-not-has_room.false in
    omega (arith, b, binders_le a.up, a.high, room.1)

pub loop-i-preserved : goal.loop-i-preserved
loop-i-preserved c =
    let s = c.loop-i.invariant.reached in
    let some : c.loop-i.coming ≡ Some c.in_ok-height.height = search rules in
    let a = above _ _ _ _ _ _ some s in
    let room = c.has_room.ensures.0 c.if-not-has_room.false in
    let good = c.is_good.ensures.0 c.if-not-is_good.false in
    let h = held_front _ _ a.up a.high a.holds in
    let b = c.binders_above-above.ensures a.up h.0 h.1 in
    let more = reached_more _ _ _ _ _ _ _ _ _ _ s a c.loop-i-test.true room.0 room.1 b good (c.pass-coming.ensures a.up a.high b a.holds) c.deepened-deepest.ensures in
    record { reached = more; records = search rules }

pub returns-in-None-clause-judged : goal.returns-in-None-clause-judged
returns-in-None-clause-judged c =
    let s = c.loop-i.invariant.reached in
    keeps _ _ _ _ _ (all_at _ _ (λ i h. omega (arith, c.type_inv.cells i))) s (ended _ _ _ _ _ c.in-None.is s) (omega arith)

pub returns-in-Some-clause-judged : goal.returns-in-Some-clause-judged
returns-in-Some-clause-judged c =
    let s = c.loop-i.invariant.reached in
    let a = above _ _ _ _ _ _ c.in-Some.is s in
    runs_out _ _ _ _ _ a.up s a.is (omega arith)
