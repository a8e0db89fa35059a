use Rattle.std.proofs.Common.{◌≡◌, ◌+◌, false, length, sym, ap, ◌∙◌, subst, arith}
use Rattle.terms.specs.Cells.{kind}
use Rattle.terms.specs.Forest.{Are}
use Rattle.terms.specs.Rows.{Row, size}
use Rattle.verse.specs.Contexts.{lies}
use Rattle.verse_rules.specs.Tests.{Clear}
use Rattle.verse_rules.proofs.Clears.{clearing, all_clear, next_tree, found_here, found_under, next_clear}
use Rattle.verse_rules.proofs.lying.+clear_of.Goals as goal
use Rattle.verse_rules.proofs.lying.+clear_of.Goals.{then-kind+in_ok-next, else-kind}

pub loop-c-init : goal.loop-c-init
loop-c-init r c = clearing c.args.x c.args.trees

pub returns-then-c-variable_cell : goal.returns-then-c-variable_cell
returns-then-c-variable_cell r c =
    found_here c.loop-c.invariant c.in-Some.ensures (c.if-c-variable_cell.true ∙ c.variable_cell.ensures)

pub clear_of-requires : goal.clear_of-requires
clear_of-requires r c =
    let v = c.loop-c.invariant in
    let k = next_tree c.loop-c.invariant c.in-Some.ensures in
    (omega (arith, ap length c.in-Some.ensures.2.cells, v.cells, v.start, k.starts, k.within), tt)

pub returns-in_err-next : goal.returns-in_err-next
returns-in_err-next r c = λ t s.
    subst (Clear c.args.x t c.args.trees.at) (sym c.from_residual.ensures) (found_under c.loop-c.invariant c.in-Some.ensures (sym c.kind.ensures ∙ c.if-kind.true) c.in_err-next.ensures t s)

pub loop-c-preserved : goal.loop-c-preserved
loop-c-preserved r c =
    let p = c.in-Some.ensures in
    let f : (ks : Row) → Are c.in-Some.below ks → (c.if-kind.next ≡ c.in-Some.below.at + size ks) × (kind c.in-Some.c ≡ 3 → lies c.args.x ks ≡ false) = λ ks a. elim c.if-kind.branch [
      | then-kind+in_ok-next w ↦ let d = w.in_ok-next.ensures ks a in (omega (arith, w.next-is, d.1), λ i. d.0)
      | else-kind w ↦ (omega (arith, w.next-is, w.end-next.ensures ks a), λ i. absurd (w.if-kind.false (c.kind.ensures ∙ i)))
    ] in
    next_clear c.loop-c.invariant p c.if-kind.next (λ i. c.if-c-variable_cell.false (i ∙ sym c.variable_cell.ensures)) f c.others-rest.ensures

pub returns : goal.returns
returns r c = all_clear c.loop-c.invariant c.in_default.ensures
