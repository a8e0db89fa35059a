-- The two laws, for a rule and for the whole figure.
use Rattle.std.specs.Prelude.{◌≡◌, ℕ, ◌^◌, ◌≤◌, true, ◌⊎◌, ◌↔◌, List, Ok, Result, ◌≢◌}
use Rattle.calculus.specs.Line.{Gives}
use Rattle.terms.specs.Rows.{Row, size, Free, Below, Place, pick, put, var}
use Rattle.verse.specs.Syntax.{Term, Val, Exp, Site}
use Rattle.verse.specs.Contexts.{Context, ◌⟦◌⟧, place, X, CX, SX, lies}
use Rattle.verse.specs.Lines.{Word, Holds, Deep}
use Rattle.verse.specs.Figure.{Says, line}

-- a lawful term whose payloads stay within 32 bits under its own binders
pub record Held (t : Row) : Type 0 where
  pub lawful : Term t
  pub low : Below 65535 t
  pub short : size t ≤ 2 ^ 31

-- the given term is an expression
abbrev pub FirstOf : ℕ → Type 0
FirstOf n = (inner : List ℕ) (t u : Row) → Held t → Gives (line n inner t) u → Term u

-- its free variables are free in the redex
abbrev pub SecondOf : ℕ → Type 0
SecondOf n = (inner : List ℕ) (t u : Row) → Held t → Gives (line n inner t) u → (x : ℕ) → Free x u → Free x t

-- First law: the given term, put at its site, leaves the whole lawful.
abbrev pub FirstLaw : Type 0
FirstLaw = (whole : Row) (place : List ℕ) (n argument : ℕ) (inner : List ℕ) (u : Row) →
    Held whole → Site whole place → Says n argument inner (pick whole 0 place) (Ok u) → Term (put whole 0 place u)

-- Second law: its free variables are free in the redex.
abbrev pub SecondLaw : Type 0
SecondLaw = (n argument : ℕ) (inner : List ℕ) (t u : Row) → Held t → Says n argument inner t (Ok u) → (x : ℕ) → Free x u → Free x t

-- the two laws for VAL-ELIM, APP-BETA, EXI-ELIM and SUBST
abbrev pub SomeLaws : Type 0
SomeLaws = (FirstOf 15 × SecondOf 15) × (FirstOf 4 × SecondOf 4) × (FirstOf 16 × SecondOf 16) × (FirstOf 11 × SecondOf 11)

-- The meaning is one value: the same question has the same answer.
abbrev pub OneAnswer : Type 0
OneAnswer = (n argument : ℕ) (inner : List ℕ) (t : Row) (a b : Result Row ℕ) → Says n argument inner t a → Says n argument inner t b → a ≡ b

-- The inner place of a context names the part in its hole, and to put a term there is to put it in the hole.
pub record Names (C : Context) (h : Row) : Type 0 where
  pub named : Place (C ⟦ h ⟧) 0 (place C)
  pub picked : pick (C ⟦ h ⟧) 0 (place C) ≡ h
  pub plugged : (u : Row) → put (C ⟦ h ⟧) 0 (place C) u ≡ C ⟦ u ⟧

abbrev pub Places : Type 0
Places = (C : Context) (h : Row) → X C ⊎ (CX C ⊎ SX C) → Exp h → Names C h

-- A redex at a site is an expression, and an expression put there leaves the whole lawful.
abbrev pub Sites : Type 0
Sites = (whole : Row) (p : List ℕ) → Term whole → Site whole p → Exp (pick whole 0 p) × ((u : Row) → Exp u → Term (put whole 0 p u))

-- Occurrence: v = V[x] is what the test says; v ≠ V[x] says that v is not x and that x does not lie in v under tuples.
abbrev pub Occurrence : Type 0
Occurrence = (x : ℕ) (v : Row) → Word x → Val v → (Holds x v ↔ (lies x v ≡ true)) × ((Holds x v → ⊥) ↔ ((v ≢ var x) × (Deep x v → ⊥)))

-- Every question has an answer.
abbrev pub SomeAnswer : Type 0
SomeAnswer = (n argument : ℕ) (inner : List ℕ) (t : Row) → Term t → (a : Result Row ℕ) × Says n argument inner t a

-- The words after "if" hold of every way in which a redex has the left side, or of none.
abbrev pub OneWay : Type 0
OneWay = (n : ℕ) (inner : List ℕ) (t : Row) (l m : (line n inner t).Left) → (line n inner t).If l → (line n inner t).If m
