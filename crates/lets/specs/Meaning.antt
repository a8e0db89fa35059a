-- What let-rewriting over a program means, over cells.
use Rattle.std.specs.Prelude.{ℕ, ◌≤◌}
use Rattle.terms.specs.Rows.{Row, size, Free, Below}
use Rattle.calculus.specs.Line.{Gives}
use Rattle.calculus.specs.Meaning.{Meaning, most}
use Rattle.calculus.specs.Laws.{Laws}
use Rattle.calculus.specs.Figures.{Figure, meaning_of}
use Rattle.lets.specs.Syntax.{Term, Site, ProgramRules}
use Rattle.lets.specs.Laws.{FirstOf, SecondOf}
use Rattle.lets.specs.Figure.{HasRule, Apt, line}

-- of a program, its rules side by side
abbrev pub lets : Row → Figure
lets program = record { Term = Term; Site = Site; HasRule = HasRule; Apt = Apt program; line = λ rule argument inner. line rule program argument }

abbrev pub meaning : Row → Meaning
meaning program = meaning_of (lets program)

-- It keeps what every calculus owes, over every program.
abbrev pub KeepsLaws : Type 0
KeepsLaws = (program : Row) → ProgramRules program → Laws (meaning program)

-- A rule at a time: what a rule gives is lawful, and its free variables are free in the
-- redex, wherever the given term has at most 2^31 cells, however long the redex.
abbrev pub FirstShort : ℕ → Type 0
FirstShort n = (program : Row) (argument : ℕ) (t u : Row) → ProgramRules program → Term t → Below 65535 t → Gives (line n program argument t) u → size u ≤ most → Term u

abbrev pub SecondShort : ℕ → Type 0
SecondShort n =
    (program : Row) (argument : ℕ) (t u : Row) → ProgramRules program → Term t → Below 65535 t → Gives (line n program argument t) u → size u ≤ most → (x : ℕ) → Free x u → Free x t

abbrev pub Suffices : Type 0
Suffices = ((n : ℕ) → HasRule n → FirstShort n × SecondShort n) → KeepsLaws

-- the same for a rule that needs no bound; both forms follow
abbrev pub Anyway : ℕ → Type 0
Anyway n =
    ((program : Row) (argument : ℕ) (t u : Row) → ProgramRules program → Term t → Below 65535 t → Gives (line n program argument t) u → Term u) × ((program : Row) (argument : ℕ) (t u : Row) → ProgramRules program → Term t → Below 65535 t → Gives (line n program argument t) u → (x : ℕ) → Free x u → Free x t)

abbrev pub BothForms : Type 0
BothForms = (n : ℕ) → Anyway n → (FirstOf n × SecondOf n) × (FirstShort n × SecondShort n)
