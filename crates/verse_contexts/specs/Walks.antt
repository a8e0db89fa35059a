-- Down an inner place by a kind of context.
use Rattle.std.specs.Prelude.{◌≡◌, ℕ, ◌+◌, true, List, length, Some, None, Option}
use Rattle.terms.specs.Rows.{Row}
use Rattle.verse.specs.Contexts.{Context, X, CX, Down, choice_free}
use Rattle.verse.specs.Syntax.{Exp}
use Rattle.verse_contexts.specs.declared.down.Way.{Way}
use Rattle.verse_contexts.specs.declared.down.Way.TheVariants.{Execution, Choice}
use Rattle.verse_contexts.specs.Frames.{left}

-- the contexts of a kind
abbrev pub Goes : Way → Context → Type 0
Goes Execution C = X C
Goes Choice C = CX C

-- what they pass in a sequence on the way to its second part
abbrev pub Passes : Way → Row → Type 0
Passes Execution q = Unit {0}
Passes Choice q = choice_free q ≡ true

-- In the term at a cell, the inner place leads to an expression in the hole of such a context, which begins with the
-- cell i; or it leads to none.
abbrev pub Walked : (Context → Type 0) → List ℕ → Row → ℕ → Option ℕ → Type 0
Walked Ways inner t at (Some i) = (d : Down Ways Exp inner t) × (i ≡ at + length (left d.C))
Walked Ways inner t at None = Down Ways Exp inner t → ⊥
