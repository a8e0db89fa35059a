-- The laws, for a rule and for the whole figure.
use Rattle.std.specs.Prelude.{◌≡◌, ℕ, ◌^◌, ◌≤◌, List, replicate, Ok, Result}
use Rattle.calculus.specs.Line.{Gives}
use Rattle.terms.specs.Rows.{Row, size, Free, Below, pick, put, substitute}
use Rattle.lets.specs.Syntax.{Lawful, Term, Terms, Site, ProgramRules}
use Rattle.lets.specs.Syntax.Sort.{pattern}
use Rattle.lets.specs.Figure.{Says, line, Match, binding}

-- a lawful term whose payloads stay within 32 bits under its own binders
pub record Held (t : Row) : Type 0 where
  pub lawful : Term t
  pub low : Below 65535 t
  pub short : size t ≤ 2 ^ 31

-- the given term is lawful
abbrev pub FirstOf : ℕ → Type 0
FirstOf n = (program : Row) (argument : ℕ) (t u : Row) → ProgramRules program → Held t → Gives (line n program argument t) u → Term u

-- its free variables are free in the redex
abbrev pub SecondOf : ℕ → Type 0
SecondOf n = (program : Row) (argument : ℕ) (t u : Row) → ProgramRules program → Held t → Gives (line n program argument t) u → (x : ℕ) → Free x u → Free x t

-- First law: the given term, put at its site, leaves the whole lawful.
abbrev pub FirstLaw : Type 0
FirstLaw = (program whole : Row) (place : List ℕ) (n argument : ℕ) (inner : List ℕ) (u : Row) → ProgramRules program →
    Held whole → Site whole place → Says program n argument inner (pick whole 0 place) (Ok u) → Term (put whole 0 place u)

-- Second law: its free variables are free in the redex.
abbrev pub SecondLaw : Type 0
SecondLaw = (program : Row) (n argument : ℕ) (inner : List ℕ) (t u : Row) → ProgramRules program →
    Held t → Says program n argument inner t (Ok u) → (x : ℕ) → Free x u → Free x t

-- The meaning is one value: the same question has the same answer.
abbrev pub OneAnswer : Type 0
OneAnswer = (program : Row) (n argument : ℕ) (inner : List ℕ) (t : Row) (a b : Result Row ℕ) → ProgramRules program →
    Says program n argument inner t a → Says program n argument inner t b → a ≡ b

-- both laws for Bind and Flat
abbrev pub SomeLaws : Type 0
SomeLaws = (FirstOf 3 × SecondOf 3) × (FirstOf 5 × SecondOf 5)

-- Every question has an answer.
abbrev pub SomeAnswer : Type 0
SomeAnswer = (program : Row) (n argument : ℕ) (inner : List ℕ) (t : Row) → ProgramRules program → Term t → (a : Result Row ℕ) × Says program n argument inner t a

-- Terms that match patterns are the patterns with the bindings for their variables: pθ.
abbrev pub Matching : Type 0
Matching = (θ p ts : Row) (n : ℕ) → Lawful (replicate n pattern) p → Terms ts → Match θ p ts → ts ≡ substitute (binding θ) 0 0 p
