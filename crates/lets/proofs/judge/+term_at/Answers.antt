use Rattle.std.proofs.Common.{◌≡◌, max, sym, refl, ◌∙◌, arith, rules}
use Rattle.terms.proofs.Judgings.{lies_child, lies_as, lies_bounds, exit_from}
use Rattle.lets.specs.Syntax.{admits, kids}
use Rattle.lets.specs.Syntax.Sort.{term}
use Rattle.lets.proofs.Judges.{term_end, term_bad, term_stuck, term_lies}
use Rattle.lets.proofs.judge.+term_at.Goals as goal

pub returns-then-at-cells : goal.returns-then-at-cells
returns-then-at-cells t c = term_end _ _ (omega arith)

pub returns-then-not-is_term_cell : goal.returns-then-not-is_term_cell
returns-then-not-is_term_cell t c = term_bad _ _ (omega arith) (sym c.if-not-is_term_cell.ensures)

pub returns-in_err-next : goal.returns-in_err-next
returns-in_err-next t c =
    exit_from admits kids _ _ _ _ _ c.from_residual.ensures.1 (term_stuck _ _ _ _ _ _ _ (omega arith) (sym c.if-not-is_term_cell.ensures) c.children-judged-end.ensures (omega arith) c.loop-judged.invariant c.in_err-next.ensures)

pub loop-judged-preserved : goal.loop-judged-preserved
loop-judged-preserved t c =
    let e : max c.loop-judged.deepest c.in_ok-next.deep ≡ c.max-deepest.result = search rules in
    lies_as admits kids (lies_child admits kids term _ c.loop-judged.invariant c.in_ok-next.ensures) refl refl refl e

pub overflow_add-result : goal.overflow_add-result
overflow_add-result t c = let b = lies_bounds admits kids c.loop-judged.invariant in omega arith

pub returns : goal.returns
returns t c =
    let e : c.loop-judged._judged ≡ c.children-judged-end.result = omega arith in
    term_lies _ _ c.loop-judged._judged _ _ (omega arith) (sym c.if-not-is_term_cell.ensures) (e ∙ c.children-judged-end.ensures) c.loop-judged.invariant
