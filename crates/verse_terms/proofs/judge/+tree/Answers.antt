use Rattle.std.proofs.Common.{◌≡◌, max, [], sym, refl, ◌∙◌, arith, rules}
use Rattle.terms.proofs.Judgings.{lies_as, lies_bounds, stuck_end, exit_from}
use Rattle.verse.specs.Syntax.{admits, kids}
use Rattle.verse_terms.specs.Sorts.{sort_of}
use Rattle.verse_terms.proofs.Judges.{stuck_cell, lies_more, stuck_child, lies_cell}
use Rattle.verse_terms.proofs.Sorts.{filler}
use Rattle.verse_terms.proofs.judge.+tree.Goals as goal

pub returns-in_default : goal.returns-in_default
returns-in_default t c = stuck_end admits kids filler (sort_of c.args.sort) [] _ _ (omega (arith, c.in_default.ensures.lookup.3))

pub returns-then-not-admits : goal.returns-then-not-admits
returns-then-not-admits t c =
    let l = c.in-Some.ensures.lookup.3 in
    stuck_cell (sort_of c.args.sort) c.args.cells.now c.args.at c.in-Some.field-0.now l.0 (l.1 0) (sym c.admits.ensures ∙ c.if-not-admits.true)

pub returns-in_err-next : goal.returns-in_err-next
returns-in_err-next t c =
    let l = c.in-Some.ensures.lookup.3 in
    exit_from admits kids _ _ _ _ _ c.from_residual.ensures.1 (stuck_child (sort_of c.args.sort) c.args.cells.now c.args.at c.in-Some.field-0.now l.0 (l.1 0) (sym c.admits.ensures ∙ c.if-not-admits.false) _ _ _ c.loop-n.invariant (omega (arith, c.children-n-end.ensures)) _ c.child_sort.ensures _ c.in_err-next.ensures)

pub loop-n-preserved : goal.loop-n-preserved
loop-n-preserved t c =
    let l = c.in-Some.ensures.lookup.3 in
    let e : max c.loop-n.deepest c.in_ok-next.deep ≡ c.max-deepest.result = search rules in
    lies_as admits kids (lies_more (sort_of c.args.sort) c.args.cells.now c.args.at c.in-Some.field-0.now l.0 (l.1 0) (sym c.admits.ensures ∙ c.if-not-admits.false) _ _ _ c.loop-n.invariant (omega (arith, c.children-n-end.ensures)) _ c.child_sort.ensures _ _ c.in_ok-next.ensures) refl refl refl e

pub overflow_add-result : goal.overflow_add-result
overflow_add-result t c =
    let b = lies_bounds admits kids c.loop-n.invariant in omega arith

pub returns : goal.returns
returns t c =
    let l = c.in-Some.ensures.lookup.3 in
    lies_cell (sort_of c.args.sort) c.args.cells.now c.args.at c.in-Some.field-0.now l.0 (l.1 0) (sym c.admits.ensures ∙ c.if-not-admits.false) _ _ _ c.loop-n.invariant (omega (arith, c.children-n-end.ensures))
