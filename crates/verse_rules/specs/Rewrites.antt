-- What a rule with no inner place answers for a redex.
use Rattle.std.specs.Prelude.{◌≡◌, ℕ, List, Result}
use Rattle.calculus.specs.declared.no.No.{No}
use Rattle.calculus.specs.Written.{Written}
use Rattle.terms.specs.Rows.{Row, flat}
use Rattle.verse.specs.Syntax.{Term}
use Rattle.verse.specs.Lines.{Rule}
use Rattle.verse_rules.specs.declared.redex.Redex.{Redex}

-- The answer of the rule's line, whatever the inner place, and what the space holds then.
abbrev pub Rewrites : Rule → Redex → (space space' : List ℕ) → Result ℕ No → Type 0
Rewrites rule redex space space' r = (t : Row) (inner : List ℕ) → Term t → flat t ≡ redex.cells.now → Written (rule inner t) space space' r
