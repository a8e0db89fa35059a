use Rattle.std.proofs.Common.{rules, ◌≡◌, length, sym, subst, get_or, Some, None, Err, arith}
use Rattle.terms.specs.Descents.{ChildAt, Reached}
use Rattle.terms.proofs.Ways.{Come, come_none, come_all, further, strays}
use Rattle.terms.proofs.place.down.Goals as goal

pub loop-k-init : goal.loop-k-init
loop-k-init c = λ t is. come_none c.args.cells.now c.args.place.now t is

pub returns-in_err-at : goal.returns-in_err-at
returns-in_err-at c = λ t is.
    let e : c.child.result ≡ None = search rules in
    let q : c.from_residual.result ≡ Err c.loop-k.k = search rules in
    let r = strays _ _ t _ _ is (omega arith) (c.loop-k.invariant t is) (subst (ChildAt c.args.cells.now c.loop-k.at (get_or c.args.place.now c.loop-k.k 0)) e c.child.ensures) in
    subst (Reached c.args.cells.now c.args.place.now) (sym q) r

pub loop-k-preserved : goal.loop-k-preserved
loop-k-preserved c = λ t is.
    let e : c.child.result ≡ Some c.in_ok-at.at = search rules in
    further _ _ t _ _ is (omega arith) (c.loop-k.invariant t is) _ (subst (ChildAt c.args.cells.now c.loop-k.at (get_or c.args.place.now c.loop-k.k 0)) e c.child.ensures)

pub returns : goal.returns
returns c = λ t is.
    let e : c.loop-k.k ≡ length c.args.place.now = omega arith in
    come_all _ _ t _ is (subst (λ k. Come c.args.cells.now c.args.place.now t k c.loop-k.at) e (c.loop-k.invariant t is))
