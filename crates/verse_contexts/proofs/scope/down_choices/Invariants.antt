use Rattle.std.proofs.Common.{length}
use Rattle.terms.specs.Forest.{Are}
use Rattle.terms.specs.Rows.{Row}
use Rattle.verse.specs.Contexts.{SC}
use Rattle.verse.specs.Syntax.{Exp}
use Rattle.verse_contexts.specs.Scopes.{Branched}
use Rattle.verse_contexts.proofs.Reaches.{Reached}
use Rattle.verse_contexts.proofs.scope.down_choices.Given as goal

abbrev pub invariant-loop-entry : goal.invariant-loop-entry
invariant-loop-entry l = (t : Row) → Exp t → Are l.expression t → Reached (Branched SC) l.inner t l.expression.at l.left l.scope

abbrev pub decreases-loop-entry : goal.decreases-loop-entry
decreases-loop-entry l = length l.left
