use Rattle.std.proofs.Common.{arith}
use Rattle.verse_terms.proofs.Choosing.{passed, all_passed, next_tree, not_passed, next_passed}
use Rattle.verse_terms.proofs.free.+choice_free.Goals as goal

pub is_choice_free-loop-c-init : goal.is_choice_free-loop-c-init
is_choice_free-loop-c-init t c = passed c.args.trees

pub is_choice_free-is_tree_free-requires : goal.is_choice_free-is_tree_free-requires
is_choice_free-is_tree_free-requires t c =
    let v = c.loop-c.invariant in
    let p = next_tree c.loop-c.invariant c.in-Some.ensures in
    (omega (arith, v.cells, v.start, p.start, p.same, p.here), tt)

pub is_choice_free-returns-then-not-is_tree_free : goal.is_choice_free-returns-then-not-is_tree_free
is_choice_free-returns-then-not-is_tree_free t c =
    not_passed c.loop-c.invariant c.in-Some.ensures _ (c.if-not-is_tree_free.true) c.is_tree_free.ensures

pub is_choice_free-loop-c-preserved : goal.is_choice_free-loop-c-preserved
is_choice_free-loop-c-preserved t c =
    next_passed c.loop-c.invariant c.in-Some.ensures _ (c.if-not-is_tree_free.false) c.is_tree_free.ensures c.end.ensures c.others-rest.ensures

pub is_choice_free-returns : goal.is_choice_free-returns
is_choice_free-returns t c = all_passed c.loop-c.invariant c.in_default.ensures
