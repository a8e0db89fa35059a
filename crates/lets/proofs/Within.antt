-- The two laws of a rule where the redex or the given term is short: both forms at once.
use Rattle.std.proofs.Common.{ℕ, ◌^◌, ◌≤◌, ◌⊎◌, inl, inr}
use Rattle.calculus.specs.Line.{Gives}
use Rattle.terms.specs.Rows.{Row, size, Free, Below}
use Rattle.calculus.specs.Meaning.{most}
use Rattle.lets.specs.Syntax.{Term, ProgramRules}
use Rattle.lets.specs.Figure.{line}
use Rattle.lets.specs.Laws.{FirstOf, SecondOf}
use Rattle.lets.specs.Meaning.{FirstShort, SecondShort}

pub record Within (t u : Row) : Type 0 where
  pub lawful : Term t
  pub low : Below 65535 t
  pub within : (size t ≤ 2 ^ 31) ⊎ (size u ≤ most)

abbrev pub FirstWithin : ℕ → Type 0
FirstWithin n = (program : Row) (argument : ℕ) (t u : Row) → ProgramRules program → Within t u → Gives (line n program argument t) u → Term u

abbrev pub SecondWithin : ℕ → Type 0
SecondWithin n = (program : Row) (argument : ℕ) (t u : Row) → ProgramRules program → Within t u → Gives (line n program argument t) u → (x : ℕ) → Free x u → Free x t

pub first_held : (n : ℕ) → FirstWithin n → FirstOf n
first_held n f program argument t u rules h g = f program argument t u rules (record { lawful = h.lawful; low = h.low; within = inl h.short }) g

pub second_held : (n : ℕ) → SecondWithin n → SecondOf n
second_held n f program argument t u rules h g = f program argument t u rules (record { lawful = h.lawful; low = h.low; within = inl h.short }) g

pub first_short : (n : ℕ) → FirstWithin n → FirstShort n
first_short n f program argument t u rules h b g l = f program argument t u rules (record { lawful = h; low = b; within = inr l }) g

pub second_short : (n : ℕ) → SecondWithin n → SecondShort n
second_short n f program argument t u rules h b g l = f program argument t u rules (record { lawful = h; low = b; within = inr l }) g
