-- What is asked of a program, of its rules and of their two sides, over cells.
use Rattle.std.specs.Prelude.{◌≡◌, ℕ, ◌+◌, ◌<◌, ◌≤◌, true, cond, List, [], ◌∷◌, ◌++◌, length, Some, None, Option, ◌==◌, ◌≢◌, nat_lt}
use Rattle.terms.specs.Cells.{kind, payload}
use Rattle.terms.specs.Lists.{In, All, count}
use Rattle.terms.specs.Rows.{Row, flat, size, frees}
use Rattle.terms.specs.Standing.{Stands}
use Rattle.lets.specs.Syntax.{Sort, admits, ProgramRule, Program, BadRule}
use Rattle.lets.specs.Syntax.Sort.{left, pattern}

-- a tree of the sort may begin with each of the cells
abbrev pub Admitted : Sort → List ℕ → Type 0
Admitted s cells = All (λ c. admits s c ≡ true) cells

-- the cells of a left side: a function, then constructors and variables
abbrev pub LeftCells : List ℕ → Type 0
LeftCells [] = ⊥
LeftCells (c ∷ cells) = (admits left c ≡ true) × Admitted pattern cells

-- the payloads of the variables among the cells
abbrev pub payloads : List ℕ → List ℕ
payloads [] = []
payloads (c ∷ cells) = cond (kind c == 0) (payload c ∷ payloads cells) (payloads cells)

-- the numbers below their count, each once
abbrev pub EachOnce : List ℕ → Type 0
EachOnce xs = (x : ℕ) → count x xs ≡ cond (nat_lt x (length xs)) 1 0

-- How many variables there are, up to 1,024, if their payloads are the numbers below that, each once.
abbrev pub Numbered : List ℕ → Option ℕ → Type 0
Numbered cells (Some n) = (n ≡ length (payloads cells)) × (n ≤ 1024) × EachOnce (payloads cells)
Numbered cells None = length (payloads cells) ≤ 1024 → EachOnce (payloads cells) → ⊥

-- The free numbers of a row are below m, d binders above its trees and b more above the last.
abbrev pub FreeBelow : (m d b : ℕ) → Row → Type 0
FreeBelow m d b t = (x : ℕ) → In x (frees d b t) → x < m

-- where n trees that stand at a cell end, if their free numbers are below m
abbrev pub Bounded : (m d b n : ℕ) → List ℕ → ℕ → Option ℕ → Type 0
Bounded m d b n cells at (Some e) = (t : Row) → Stands t n cells at → (e ≡ at + size t) × FreeBelow m d b t
Bounded m d b n cells at None = (t : Row) → Stands t n cells at → FreeBelow m d b t → ⊥

-- The cells are those of a program rule.
pub record RuleCells (cells : List ℕ) : Type 0 where
  pub row : Row
  pub rule : ProgramRule row
  pub reads : flat row ≡ cells

-- the cells begin with a program rule, and these stand behind it; or they begin with none
abbrev pub RuleFirst : (cells rest : List ℕ) → Type 0
RuleFirst cells rest = (t : Row) × ProgramRule t × (flat t ++ rest ≡ cells)

abbrev pub NoRuleFirst : List ℕ → Type 0
NoRuleFirst cells = (t : Row) (l : List ℕ) → ProgramRule t → flat t ++ l ≢ cells

-- The cells are a program, or their first bad rule.
abbrev pub ProgramChecked : List ℕ → Option ℕ → Type 0
ProgramChecked cells None = (p : Row) × Program cells p
ProgramChecked cells (Some i) = BadRule cells i
