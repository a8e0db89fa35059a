use Rattle.std.proofs.Common.{◌≡◌, length, Some, sym, ap, ◌∙◌, arith}
use Rattle.std.proofs.lemmas.Result.{err_from_is_err_and}
use Rattle.moves.specs.Renamings.{free}
use Rattle.moves.proofs.Seeks.{is_number, no_number, seek, all_sought, next_tree, sought_here, sought_kids, next_sought}
use Rattle.moves.proofs.occurs.+search.Goals as goal

pub loop-c-init : goal.loop-c-init
loop-c-init t c = seek c.args.x c.args.scope

pub returns-then-eq : goal.returns-then-eq
returns-then-eq t c =
    sought_here c.loop-c.invariant c.in-Some.ensures (sym c.free_number.ensures ∙ is_number c.free_number.result c.args.x c.eq.ensures c.if-eq.true)

pub search-requires : goal.search-requires
search-requires t c =
    let p = c.in-Some.ensures in
    let v = c.loop-c.invariant in
    let k = next_tree c.loop-c.invariant c.in-Some.ensures in
    (omega (arith, ap length p.part.cells, ap length v.cells, v.start, k.starts, k.within, k.sized), tt)

pub returns-in_err-next : goal.returns-in_err-next
returns-in_err-next t c =
    let no = λ (h : free c.in-Some.inner.d c.in-Some.c ≡ Some c.args.x). no_number c.free_number.result c.args.x c.eq.ensures c.if-eq.false (c.free_number.ensures ∙ h) in
    let p = err_from_is_err_and c.from_residual.result c.from_residual.ensures.1 in
    rw (p.1, p.2) (sought_kids c.loop-c.invariant c.in-Some.ensures no _ c.in_err-next.ensures)

pub loop-c-smaller : goal.loop-c-smaller
loop-c-smaller t c = omega (arith, c.in-Some.ensures.some, c.others-rest.ensures.part.count)

pub loop-c-preserved : goal.loop-c-preserved
loop-c-preserved t c =
    let no = λ (h : free c.in-Some.inner.d c.in-Some.c ≡ Some c.args.x). no_number c.free_number.result c.args.x c.eq.ensures c.if-eq.false (c.free_number.ensures ∙ h) in
    next_sought c.loop-c.invariant c.in-Some.ensures no c.in_ok-next.ensures c.others-rest.ensures

pub returns : goal.returns
returns t c = all_sought c.loop-c.invariant c.in_default.ensures
