use Rattle.std.proofs.Common.{◌+◌, ◌-◌, sym, refl, subst, arith}
use Rattle.terms.specs.Rows.Row.{none}
use Rattle.terms.proofs.Steps.{moved, stands_none, size_within}
use Rattle.terms.proofs.Skips.{Carries, carries_more, width_size}
use Rattle.terms.proofs.extent.skip.Goals as goal

pub returns-then-due-saturating_sub : goal.returns-then-due-saturating_sub
returns-then-due-saturating_sub c = λ t s.
    let b = c.loop-due.invariant.forth t s in
    omega (arith, size_within b.1, width_size b.0, b.1.wide)

pub loop-due-preserved : goal.loop-due-preserved
loop-due-preserved c =
    subst (λ k. Carries c.args.n c.args.at (c.loop-due.due - 1 + k) (c.loop-due.end + 1) c.args.cells.now) (sym c.children.ensures) (carries_more _ _ _ _ c.args.cells.now c.loop-due.invariant (omega arith) (omega arith) (omega (arith, c.type_inv.cells c.loop-due.end)))

pub returns : goal.returns
returns c =
    let b = c.loop-due.invariant.back none (moved (stands_none c.args.cells.now c.loop-due.end) (omega arith) refl) in
    (b.0, b.1, omega (arith, b.2))
