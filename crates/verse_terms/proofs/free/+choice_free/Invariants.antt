use Rattle.std.proofs.Common.{◌+◌, ◌-◌, ◌*◌, length}
use Rattle.verse_terms.proofs.Choosing.{Passed}
use Rattle.verse_terms.proofs.free.+choice_free.Given as goal

abbrev pub decreases-is_choice_free : goal.decreases-is_choice_free
decreases-is_choice_free l = 2 * (length l.trees.cells.now - l.trees.at)

abbrev pub decreases-is_tree_free : goal.decreases-is_tree_free
decreases-is_tree_free l = 2 * (length l.below.cells.now - l.below.at) + 1

abbrev pub invariant-is_choice_free-loop-c : goal.invariant-is_choice_free-loop-c
invariant-is_choice_free-loop-c l = Passed l.trees l.rest

abbrev pub decreases-is_choice_free-loop-c : goal.decreases-is_choice_free-loop-c
decreases-is_choice_free-loop-c l = l.rest.n
