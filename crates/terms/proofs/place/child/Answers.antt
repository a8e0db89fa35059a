use Rattle.std.proofs.Common.{rules, ◌≡◌, get_or, ap, ◌∙◌, inr, arith}
use Rattle.terms.specs.Cells.{children}
use Rattle.terms.proofs.Ways.{child_is, no_child}
use Rattle.terms.proofs.place.child.Goals as goal

pub returns-then-n-children : goal.returns-then-n-children
returns-then-n-children c =
    let e : c.in_ok-c.c.now ≡ get_or c.args.cells.now c.args.at 0 = search rules in
    no_child c.args.cells.now c.args.at c.args.n (inr (omega (arith, c.children.ensures ∙ ap children e)))

pub returns : goal.returns
returns c =
    let e : c.in_ok-c.c.now ≡ get_or c.args.cells.now c.args.at 0 = search rules in
    child_is _ _ _ c.skip.result (omega (arith, c.children.ensures ∙ ap children e)) c.skip.ensures
