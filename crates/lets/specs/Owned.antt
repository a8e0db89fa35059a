-- The program that a calculus owns, read off its cells.
use Rattle.std.specs.Prelude.{◌≡◌, ℕ, ◌+◌, ◌<◌, ◌≤◌, List, [], Some, None, Option}
use Rattle.terms.specs.Rows.{size, width, pick}
use Rattle.terms.specs.Reading.{trees}
use Rattle.terms.specs.Standing.{Stands}
use Rattle.lets.specs.Syntax.{ProgramRule, ProgramRules}

-- not to be refuted
abbrev pub Sure : Type 0 → Type 0
Sure P = (P → ⊥) → ⊥

-- the trees that the cells read as are up to 256 program rules
pub record GoodRules (cells : List ℕ) : Type 0 where
  pub rules : ProgramRules (trees cells)
  pub few : width (trees cells) ≤ 256

-- the rule of a number stands among the cells, from one to another
pub record RuleStands (cells : List ℕ) (number start end : ℕ) : Type 0 where
  pub there : number < width (trees cells)
  pub rule : ProgramRule (pick (trees cells) number [])
  pub stands : Stands (pick (trees cells) number []) 1 cells start
  pub ended : end ≡ start + size (pick (trees cells) number [])

-- where it does; none past the last
abbrev pub RuleAsked : List ℕ → ℕ → Option (ℕ × ℕ) → Type 0
RuleAsked cells number (Some v) = RuleStands cells number v.0 v.1
RuleAsked cells number None = width (trees cells) ≤ number
