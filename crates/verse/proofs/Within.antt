-- The two laws of a rule where the redex or the given term is short: both forms at once.
use Rattle.std.proofs.Common.{ℕ, ◌^◌, ◌≤◌, ◌⊎◌, List, inl, inr}
use Rattle.calculus.specs.Line.{Gives}
use Rattle.terms.specs.Rows.{Row, size, Free, Below}
use Rattle.calculus.specs.Meaning.{most}
use Rattle.verse.specs.Syntax.{Term}
use Rattle.verse.specs.Figure.{line}
use Rattle.verse.specs.Laws.{FirstOf, SecondOf}
use Rattle.verse.specs.Meaning.{FirstShort, SecondShort}

pub record Within (t u : Row) : Type 0 where
  pub lawful : Term t
  pub low : Below 65535 t
  pub within : (size t ≤ 2 ^ 31) ⊎ (size u ≤ most)

abbrev pub FirstWithin : ℕ → Type 0
FirstWithin n = (inner : List ℕ) (t u : Row) → Within t u → Gives (line n inner t) u → Term u

abbrev pub SecondWithin : ℕ → Type 0
SecondWithin n = (inner : List ℕ) (t u : Row) → Within t u → Gives (line n inner t) u → (x : ℕ) → Free x u → Free x t

pub first_held : (n : ℕ) → FirstWithin n → FirstOf n
first_held n f inner t u h g = f inner t u (record { lawful = h.lawful; low = h.low; within = inl h.short }) g

pub second_held : (n : ℕ) → SecondWithin n → SecondOf n
second_held n f inner t u h g = f inner t u (record { lawful = h.lawful; low = h.low; within = inl h.short }) g

pub first_short : (n : ℕ) → FirstWithin n → FirstShort n
first_short n f inner t u h b g l = f inner t u (record { lawful = h; low = b; within = inr l }) g

pub second_short : (n : ℕ) → SecondWithin n → SecondShort n
second_short n f inner t u h b g l = f inner t u (record { lawful = h; low = b; within = inr l }) g
