-- What the judge answers.
use Rattle.std.specs.Prelude.{ℕ, List, [], ◌∷◌, Result}
use Rattle.terms.specs.Grammar as Grammar
use Rattle.terms.specs.Judging as Judging
use Rattle.lets.specs.Syntax.{admits, kids}
use Rattle.lets.specs.Syntax.Sort.{term}

-- Are the cells a lawful term?
abbrev pub TermJudged : List ℕ → Result (ℕ × ℕ) ℕ → Type 0
TermJudged cells r = Grammar.Judged admits kids (term ∷ []) cells r

-- does one lie from a cell on?
abbrev pub TermFrom : List ℕ → ℕ → Result (ℕ × ℕ) ℕ → Type 0
TermFrom cells at r = Judging.JudgedFrom admits kids (term ∷ []) cells at r
