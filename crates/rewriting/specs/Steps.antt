-- What a rule's step answers and writes.
use Rattle.std.specs.Prelude.{◌≡◌, ℕ, List, Result}
use Rattle.terms.specs.Rows.{Row, flat}
use Rattle.calculus.specs.declared.no.No.{No}
use Rattle.calculus.specs.Line.{Line}
use Rattle.calculus.specs.Written.{Written}
use Rattle.lets.specs.Syntax.{Term}

-- the answer of the line for the lawful term that the cells spell
abbrev pub Steps : (Row → Line) → (redex space space' : List ℕ) → Result ℕ No → Type 0
Steps line redex space space' r = (t : Row) → Term t → flat t ≡ redex → Written (line t) space space' r
