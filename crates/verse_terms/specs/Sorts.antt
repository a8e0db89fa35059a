-- What a place calls for.
use Rattle.std.specs.Prelude.{ℕ, cond, ◌&&◌, ◌||◌, ◌==◌}
use Rattle.verse.specs.declared.kind.Kind.{Kind}
use Rattle.verse.specs.declared.kind.Kind.TheVariants.{Variable, Integer, Operator, Tuple, Lambda, Application, Sequence, Equation, Exists, Fail, Choice, One, All}
use Rattle.verse.specs.Syntax as Syntax
use Rattle.verse.specs.Syntax.Sort.{val, exp, equ}
use Rattle.verse_terms.specs.declared.sort.Sort.{Sort}
use Rattle.verse_terms.specs.declared.sort.Sort.TheVariants.{Value, Expression, FirstPart}

abbrev pub sort_of : Sort → Syntax.Sort
sort_of Value = val
sort_of Expression = exp
sort_of FirstPart = equ

-- the sort of the child number n of a cell of kind k
abbrev pub child_sort : ℕ → ℕ → Syntax.Sort
child_sort k n = cond (k == 3 || k == 5) val (cond (k == 6 && n == 0) equ (cond (k == 7 && n == 0) val exp))

-- the first sort, of values, expressions and first parts, that takes a cell of the kind
abbrev pub first_sort : Kind → Sort
first_sort Variable = Value
first_sort Integer = Value
first_sort Operator = Value
first_sort Tuple = Value
first_sort Lambda = Value
first_sort Application = Expression
first_sort Sequence = Expression
first_sort Equation = FirstPart
first_sort Exists = Expression
first_sort Fail = Expression
first_sort Choice = Expression
first_sort One = Expression
first_sort All = Expression
