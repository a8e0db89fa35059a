use Rattle.std.proofs.Common.{ℕ, length, ap, arith}
use Rattle.std.proofs.lemmas.Bool.Decides.{nat_tests}
use Rattle.terms.specs.Rows.{size}
use Rattle.terms.proofs.Standings.{stands_same}
use Rattle.moves.specs.Renamings.{renamed}
use Rattle.moves.proofs.Overs.{fronts_length, part_length}
use Rattle.moves.proofs.Scopes.{ended, fits}
use Rattle.moves.proofs.Renames.{begin, all_begun, here, enough, put, Placed, alone, kids, placed, next_begun, last_begun}
use Rattle.moves.proofs.renaming.+rename_scope.Goals as goal
use Rattle.moves.proofs.renaming.+rename_scope.Goals.{then-inner-gt0, else-inner-gt0, Joined-inner-gt0}

-- a first tree that is not the last is written, with its children or without any
written : (t : ℕ) (c : goal.Joined-inner-gt0 t) → Placed c.loop-c.invariant c.in-Some.ensures c.requires.room c.renumber.result c.if-inner-gt0.out c.if-inner-gt0.count
written t c =
    elim c.if-inner-gt0.branch [
      | then-inner-gt0 w ↦ rw (w.out-is, w.count-is) (kids c.loop-c.invariant c.in-Some.ensures c.requires.room c.renumber.result w.rename_scope-count.ensures)
      | else-inner-gt0 w ↦ rw (w.out-is, w.count-is) (alone c.loop-c.invariant c.in-Some.ensures c.requires.room c.renumber.result (grind (arith, nat_tests, w.if-inner-gt0.false)))
    ]

pub loop-c-init : goal.loop-c-init
loop-c-init t c = begin (renamed c.args.how) c.args.scope c.args.out.now

pub offset_bounds-out-count : goal.offset_bounds-out-count
offset_bounds-out-count t c =
    omega (arith, enough c.loop-c.invariant c.in-Some.ensures c.requires.room, fronts_length c.loop-c.invariant.wrote)

pub bounds-out-count : goal.bounds-out-count
bounds-out-count t c =
    omega (arith, enough c.loop-c.invariant c.in-Some.ensures c.requires.room, fronts_length c.loop-c.invariant.wrote)

pub overflow_add-count : goal.overflow_add-count
overflow_add-count t c =
    omega (arith, enough c.loop-c.invariant c.in-Some.ensures c.requires.room, fronts_length c.loop-c.invariant.wrote)

pub loop-c-smaller-then-rest-eq1 : goal.loop-c-smaller-then-rest-eq1
loop-c-smaller-then-rest-eq1 t c =
    let p = c.in-Some.ensures in
    let k = here c.loop-c.invariant c.in-Some.ensures c.requires.room in
    omega (arith, ap length p.part.cells, k.starts, k.within, k.sized)

pub loop-c-preserved-then-rest-eq1 : goal.loop-c-preserved-then-rest-eq1
loop-c-preserved-then-rest-eq1 t c =
    last_begun c.loop-c.invariant c.in-Some.ensures c.requires.room c.renumber.result (grind (arith, nat_tests, c.if-rest-eq1.true)) c.renumber.ensures

pub slice_bounds-rename_scope-count : goal.slice_bounds-rename_scope-count
slice_bounds-rename_scope-count t c =
    let v = put c.loop-c.invariant c.in-Some.ensures c.requires.room c.renumber.result in
    omega (arith, v.fits, fronts_length v)

pub slice_bounds-rename_scope-start : goal.slice_bounds-rename_scope-start
slice_bounds-rename_scope-start t c =
    let v = put c.loop-c.invariant c.in-Some.ensures c.requires.room c.renumber.result in
    omega (arith, v.fits, fronts_length v)

pub rename_scope-count-requires : goal.rename_scope-count-requires
rename_scope-count-requires t c =
    let p = c.in-Some.ensures in
    let i = c.loop-c.invariant in
    let k = here c.loop-c.invariant c.in-Some.ensures c.requires.room in
    let v = put c.loop-c.invariant c.in-Some.ensures c.requires.room c.renumber.result in
    (omega (arith, ap length p.part.cells, ap length i.cells, i.start, k.starts, k.within, k.sized), (fits k.inner (omega (arith, enough c.loop-c.invariant c.in-Some.ensures c.requires.room, fronts_length v, part_length)), c.requires.mild))

pub overflow_add-count-then-inner-gt0 : goal.overflow_add-count-then-inner-gt0
overflow_add-count-then-inner-gt0 t c =
    let k = here c.loop-c.invariant c.in-Some.ensures c.requires.room in
    let w = kids c.loop-c.invariant c.in-Some.ensures c.requires.room c.renumber.result c.rename_scope-count.ensures in
    omega (arith, placed c.loop-c.invariant c.in-Some.ensures c.requires.room c.renumber.result w, c.loop-c.invariant.start, k.within, k.sized)

pub overflow_add-scope : goal.overflow_add-scope
overflow_add-scope t c =
    let v = c.loop-c.invariant in
    let k = here c.loop-c.invariant c.in-Some.ensures c.requires.room in
    let w = written t (goal.at.overflow_add-scope t c).Joined-inner-gt0 in
    omega (arith, placed c.loop-c.invariant c.in-Some.ensures c.requires.room c.renumber.result w, ap length v.cells, v.start, k.within, k.sized)

pub others-rest-requires-clause-ended : goal.others-rest-requires-clause-ended
others-rest-requires-clause-ended t c =
    let w = written t (goal.at.others-rest-requires-clause-ended t c).Joined-inner-gt0 in
    let k = here c.loop-c.invariant c.in-Some.ensures c.requires.room in
    ended c.in-Some.ensures (λ ks a. omega (arith, placed c.loop-c.invariant c.in-Some.ensures c.requires.room c.renumber.result w, ap size (stands_same k.inner a), c.loop-c.invariant.start))

pub loop-c-smaller : goal.loop-c-smaller
loop-c-smaller t c =
    let v = c.loop-c.invariant in
    let k = here c.loop-c.invariant c.in-Some.ensures c.requires.room in
    let w = written t (goal.at.loop-c-smaller t c).Joined-inner-gt0 in
    let e = c.others-rest.ensures in
    omega (arith, placed c.loop-c.invariant c.in-Some.ensures c.requires.room c.renumber.result w, ap length e.part.cells, e.part.start, v.start, k.within, k.sized)

pub loop-c-preserved : goal.loop-c-preserved
loop-c-preserved t c =
    let w = written t (goal.at.loop-c-preserved t c).Joined-inner-gt0 in
    next_begun c.loop-c.invariant c.in-Some.ensures c.requires.room c.renumber.result w c.renumber.ensures c.others-rest.ensures

pub returns : goal.returns
returns t c = all_begun c.loop-c.invariant c.in_default.ensures
