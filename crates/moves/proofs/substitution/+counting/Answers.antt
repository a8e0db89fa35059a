use Rattle.std.proofs.Common.{length, ap, ◌∙◌, arith}
use Rattle.moves.specs.Images.{extent}
use Rattle.moves.proofs.Scopes.{ended}
use Rattle.moves.proofs.Substitutes.{hit_size, spent_miss, spend, all_spent, next_tree, first_unspent, first_ends, next_spending}
use Rattle.moves.proofs.substitution.+counting.Goals as goal

pub count_scope-loop-c-init : goal.count_scope-loop-c-init
count_scope-loop-c-init t c = spend c.args.how c.args.scope c.args.room

pub count_scope-count_first-requires : goal.count_scope-count_first-requires
count_scope-count_first-requires t c =
    let p = c.in-Some.ensures in
    let v = c.loop-c.invariant in
    let k = next_tree c.loop-c.invariant c.in-Some.ensures in
    (omega (arith, ap length p.part.cells, ap length v.cells, v.start, k.starts, k.within, k.sized), p.last)

pub count_scope-returns-in_err-next : goal.count_scope-returns-in_err-next
count_scope-returns-in_err-next t c =
    rw c.from_residual.ensures (first_unspent c.loop-c.invariant c.in-Some.ensures c.in_err-next.ensures)

pub count_scope-others-rest-requires-clause-ended : goal.count_scope-others-rest-requires-clause-ended
count_scope-others-rest-requires-clause-ended t c =
    ended c.in-Some.ensures (λ ks a. omega (arith, first_ends c.loop-c.invariant c.in-Some.ensures _ c.in_ok-next.ensures ks a, c.in-Some.ensures.part.start))

pub count_scope-loop-c-smaller : goal.count_scope-loop-c-smaller
count_scope-loop-c-smaller t c = omega (arith, c.in-Some.ensures.some, c.others-rest.ensures.part.count)

pub count_scope-loop-c-preserved : goal.count_scope-loop-c-preserved
count_scope-loop-c-preserved t c = next_spending c.loop-c.invariant c.in-Some.ensures _ c.in_ok-next.ensures c.others-rest.ensures

pub count_scope-returns : goal.count_scope-returns
count_scope-returns t c = all_spent c.loop-c.invariant c.in_default.ensures

pub count_first-returns-in_err-left-in-Some : goal.count_first-returns-in_err-left-in-Some
count_first-returns-in_err-left-in-Some t c = λ ks s a z.
    let n = c.size.ensures ∙ ap extent c.image.ensures ∙ z c.in-Some.x in
    let h = hit_size s c.args.inner.d c.args.c c.in-Some.x ks c.in-Some.ensures in
    rw c.from_residual.ensures (omega (arith, n, h, c.in_err-left-in-Some.ensures))

pub count_first-returns-in_ok-left-in-Some : goal.count_first-returns-in_ok-left-in-Some
count_first-returns-in_ok-left-in-Some t c = λ ks s a z.
    let n = c.size.ensures ∙ ap extent c.image.ensures ∙ z c.in-Some.x in
    let h = hit_size s c.args.inner.d c.args.c c.in-Some.x ks c.in-Some.ensures in
    (c.end.ensures ks a, omega (arith, n, h, c.in_ok-left-in-Some.ensures))

pub count_first-returns-in_ok-left-in-None : goal.count_first-returns-in_ok-left-in-None
count_first-returns-in_ok-left-in-None t c = λ ks s a z.
    spent_miss s c.args.inner.d c.args.inner.b c.args.c ks c.in-None.ensures c.requires _ _ _ (omega (arith, c.in_ok-left-in-None.ensures)) (c.count_scope.ensures ks s a z)
