-- What the judge answers.
use Rattle.std.specs.Prelude.{ℕ, List, [], ◌∷◌, Result}
use Rattle.terms.specs.Grammar as Grammar
use Rattle.terms.specs.Judging as Judging
use Rattle.verse.specs.Syntax.{Sort, admits, kids}
use Rattle.verse.specs.Syntax.Sort.{exp}

-- Are the cells a lawful term?
abbrev pub TermJudged : List ℕ → Result (ℕ × ℕ) ℕ → Type 0
TermJudged cells r = Grammar.Judged admits kids (exp ∷ []) cells r

-- do trees of the sorts lie from a cell on?
abbrev pub From : List Sort → List ℕ → ℕ → Result (ℕ × ℕ) ℕ → Type 0
From ss cells at r = Judging.JudgedFrom admits kids ss cells at r
