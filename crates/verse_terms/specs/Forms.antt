-- The forms of a cell that terms begin with, by what their children are.
use Rattle.std.specs.Prelude.{◌≡◌, ℕ, Bool, true, false, ◌&&◌, ◌||◌, Some, None, Option, nat_le}
use Rattle.terms.specs.Cells.{children, payload, form}
use Rattle.verse.specs.declared.kind.Kind.{Kind}
use Rattle.verse.specs.declared.kind.Kind.TheVariants.{Variable, Integer, Operator, Tuple, Lambda, Application, Sequence, Equation, Exists, Fail, Choice, One, All}
use Rattle.verse.specs.Syntax.{plain}

-- x, k or op: no children
abbrev pub leaf : ℕ → Bool
leaf c = form 0 0 0 c || (form 1 0 0 c || form 2 0 0 c && nat_le (payload c) 1)

-- ⟨v1, .., vn⟩: values
abbrev pub tupled : ℕ → Bool
tupled c = plain 3 0 (children c) c && nat_le (children c) 255

-- λx. e
abbrev pub bound : ℕ → Bool
bound c = plain 4 1 1 c

-- v1 v2
abbrev pub applied : ℕ → Bool
applied c = plain 5 0 2 c

-- q; e
abbrev pub sequenced : ℕ → Bool
sequenced c = plain 6 0 2 c

-- v = e
abbrev pub equated : ℕ → Bool
equated c = plain 7 0 2 c

-- ∃x. e, fail, e1 | e2, one{e}, all{e}: expressions
abbrev pub joined : ℕ → Bool
joined c = plain 8 1 1 c || (plain 9 0 0 c || (plain 10 0 2 c || (plain 11 0 1 c || plain 12 0 1 c)))

-- a cell of a kind, as terms have it
abbrev pub formed : Kind → ℕ → Bool
formed Variable c = form 0 0 0 c
formed Integer c = form 1 0 0 c
formed Operator c = form 2 0 0 c && nat_le (payload c) 1
formed Tuple c = tupled c
formed Lambda c = bound c
formed Application c = applied c
formed Sequence c = sequenced c
formed Equation c = equated c
formed Exists c = plain 8 1 1 c
formed Fail c = plain 9 0 0 c
formed Choice c = plain 10 0 2 c
formed One c = plain 11 0 1 c
formed All c = plain 12 0 1 c

-- the kind of which the cell is, as terms have it; or it is of none
abbrev pub Read : ℕ → Option Kind → Type 0
Read c (Some kind) = formed kind c ≡ true
Read c None = (kind : Kind) → formed kind c ≡ false
