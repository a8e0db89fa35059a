-- The kinds of cells, and their numbers.
use Rattle.std.specs.Prelude.{◌≡◌, ℕ, ◌<◌, Result, MatchResult}
use Rattle.verse.specs.declared.kind.Kind.{Kind}
use Rattle.verse.specs.declared.kind.Kind.TheVariants.{Variable, Integer, Operator, Tuple, Lambda, Application, Sequence, Equation, Exists, Fail, Choice, One, All}
use Rattle.verse.specs.declared.kind.UnknownKind.{UnknownKind}

-- the number of a kind
abbrev pub number_of : Kind → ℕ
number_of Variable = 0
number_of Integer = 1
number_of Operator = 2
number_of Tuple = 3
number_of Lambda = 4
number_of Application = 5
number_of Sequence = 6
number_of Equation = 7
number_of Exists = 8
number_of Fail = 9
number_of Choice = 10
number_of One = 11
number_of All = 12

-- the kind with this number, or no kind has it
abbrev pub Decodes : ℕ → Result Kind UnknownKind → Type 0
Decodes n r = MatchResult r (λ kind. number_of kind ≡ n) (λ e. (e.0 ≡ n) × (12 < n))
