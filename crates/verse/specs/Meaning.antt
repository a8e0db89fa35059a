-- What the Verse calculus means, over cells.
use Rattle.std.specs.Prelude.{ℕ, ◌≤◌, List}
use Rattle.terms.specs.Rows.{Row, size, Free, Below}
use Rattle.calculus.specs.Line.{Gives}
use Rattle.calculus.specs.Meaning.{Meaning, most}
use Rattle.calculus.specs.Laws.{Laws}
use Rattle.calculus.specs.Figures.{Figure, meaning_of}
use Rattle.verse.specs.Syntax.{Term, Site}
use Rattle.verse.specs.Laws.{FirstOf, SecondOf}
use Rattle.verse.specs.Figure.{HasRule, Apt, line}

abbrev pub verse : Figure
verse = record { Term = Term; Site = Site; HasRule = HasRule; Apt = Apt; line = λ rule argument inner. line rule inner }

abbrev pub meaning : Meaning
meaning = meaning_of verse

-- It keeps what every calculus owes.
abbrev pub KeepsLaws : Type 0
KeepsLaws = Laws meaning

-- A rule at a time: what a rule gives is an expression, and its free variables are free in the
-- redex, wherever the given term has at most 2^31 cells, however long the redex.
abbrev pub FirstShort : ℕ → Type 0
FirstShort n = (inner : List ℕ) (t u : Row) → Term t → Below 65535 t → Gives (line n inner t) u → size u ≤ most → Term u

abbrev pub SecondShort : ℕ → Type 0
SecondShort n = (inner : List ℕ) (t u : Row) → Term t → Below 65535 t → Gives (line n inner t) u → size u ≤ most → (x : ℕ) → Free x u → Free x t

abbrev pub Suffices : Type 0
Suffices = ((n : ℕ) → HasRule n → FirstShort n × SecondShort n) → KeepsLaws

-- the same for a rule that needs no bound; both forms follow
abbrev pub Anyway : ℕ → Type 0
Anyway n =
    ((inner : List ℕ) (t u : Row) → Term t → Below 65535 t → Gives (line n inner t) u → Term u) × ((inner : List ℕ) (t u : Row) → Term t → Below 65535 t → Gives (line n inner t) u → (x : ℕ) → Free x u → Free x t)

abbrev pub BothForms : Type 0
BothForms = (n : ℕ) → Anyway n → (FirstOf n × SecondOf n) × (FirstShort n × SecondShort n)
