use Rattle.std.proofs.Common.{length, ap, arith}
use Rattle.moves.proofs.Scopes.{ended}
use Rattle.moves.proofs.Substitutes.{fill, all_filled, first, room, long, putting, wrote_first, next_filled, hit_size, tree_hit, miss_size, tree_miss, shown_by}
use Rattle.moves.proofs.substitution.+substituting.Goals as goal

pub substitute_scope-loop-c-init : goal.substitute_scope-loop-c-init
substitute_scope-loop-c-init t c = fill c.args.how c.args.scope c.args.out.now

pub substitute_scope-offset_bounds-out-count : goal.substitute_scope-offset_bounds-out-count
substitute_scope-offset_bounds-out-count t c = omega (arith, room c.loop-c.invariant c.in-Some.ensures c.requires, long c.loop-c.invariant c.in-Some.ensures c.requires)

pub substitute_scope-slice_bounds-substitute_first-count : goal.substitute_scope-slice_bounds-substitute_first-count
substitute_scope-slice_bounds-substitute_first-count t c = omega (arith, room c.loop-c.invariant c.in-Some.ensures c.requires, long c.loop-c.invariant c.in-Some.ensures c.requires)

pub substitute_scope-slice_bounds-substitute_first-start : goal.substitute_scope-slice_bounds-substitute_first-start
substitute_scope-slice_bounds-substitute_first-start t c = omega (arith, room c.loop-c.invariant c.in-Some.ensures c.requires, long c.loop-c.invariant c.in-Some.ensures c.requires)

pub substitute_scope-substitute_first-next-requires : goal.substitute_scope-substitute_first-next-requires
substitute_scope-substitute_first-next-requires t c =
    let p = c.in-Some.ensures in
    let v = c.loop-c.invariant in
    let k = first c.loop-c.invariant c.in-Some.ensures c.requires in
    (omega (arith, ap length p.part.cells, ap length v.cells, v.start, k.starts, k.within, k.sized), (p.last, putting c.loop-c.invariant c.in-Some.ensures c.requires))

pub substitute_scope-overflow_add-count : goal.substitute_scope-overflow_add-count
substitute_scope-overflow_add-count t c =
    let w = wrote_first c.loop-c.invariant c.in-Some.ensures c.requires c.substitute_first-next.ensures in
    omega (arith, w.wrote.count, room c.loop-c.invariant c.in-Some.ensures c.requires, long c.loop-c.invariant c.in-Some.ensures c.requires)

pub substitute_scope-others-rest-requires-clause-ended : goal.substitute_scope-others-rest-requires-clause-ended
substitute_scope-others-rest-requires-clause-ended t c =
    ended c.in-Some.ensures (λ ks a. omega (arith, (c.substitute_first-next.ensures ks c.requires.s a c.requires.shows).ends, c.in-Some.ensures.part.start))

pub substitute_scope-loop-c-smaller : goal.substitute_scope-loop-c-smaller
substitute_scope-loop-c-smaller t c = omega (arith, c.in-Some.ensures.some, c.others-rest.ensures.part.count)

pub substitute_scope-loop-c-preserved : goal.substitute_scope-loop-c-preserved
substitute_scope-loop-c-preserved t c = next_filled c.loop-c.invariant c.in-Some.ensures c.requires c.substitute_first-next.ensures c.others-rest.ensures

pub substitute_scope-returns : goal.substitute_scope-returns
substitute_scope-returns t c = all_filled c.loop-c.invariant c.in_default.ensures

pub substitute_first-write-requires-clause-shown : goal.substitute_first-write-requires-clause-shown
substitute_first-write-requires-clause-shown t c =
    let q = c.requires.tree in
    (q.s c.in-Some.x, shown_by c.args.how q.s c.in-Some.x c.image.result c.image.ensures q.shows, omega (arith, hit_size q.s c.args.inner.d c.args.c c.in-Some.x q.kids c.in-Some.ensures, q.small))

pub substitute_first-returns-in-Some : goal.substitute_first-returns-in-Some
substitute_first-returns-in-Some t c = λ ks s a z.
    tree_hit s c.args.inner.d c.args.c c.in-Some.x ks c.in-Some.ensures (c.end.ensures ks a) (c.write.ensures (s c.in-Some.x) (shown_by c.args.how s c.in-Some.x c.image.result c.image.ensures z))

pub substitute_first-returns-in-None : goal.substitute_first-returns-in-None
substitute_first-returns-in-None t c = λ ks s a z.
    let q = c.requires.tree in
    let l = miss_size q.s c.args.inner.d c.args.inner.b c.args.c q.kids c.in-None.ensures c.requires.bound in
    tree_miss s c.args.inner.d c.args.inner.b c.args.c ks c.in-None.ensures c.requires.bound (omega (arith, l, q.small)) (c.substitute_scope-end.ensures ks s a z)
