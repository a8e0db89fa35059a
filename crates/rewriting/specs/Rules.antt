-- The rules of let-rewriting in the hands of the code.
use Rattle.std.specs.Prelude.{◌≡◌, ℕ, Ok, Err, Result}
use Rattle.calculus.specs.declared.no.No.{No}
use Rattle.calculus.specs.declared.no.No.TheVariants.{NoRule}
use Rattle.lets.specs.Figure.{HasRule}
use Rattle.rewriting.specs.declared.rule.Rule.{Rule}
use Rattle.rewriting.specs.declared.rule.Rule.TheVariants.{Fapp, LetIn, Bind, Elim, Flat}

-- the number of a rule
abbrev pub number : Rule → ℕ
number Fapp = 1
number LetIn = 2
number Bind = 3
number Elim = 4
number Flat = 5

-- the rule of a number, or it has none
abbrev pub Numbered : ℕ → Result Rule No → Type 0
Numbered n (Ok rule) = n ≡ number rule
Numbered n (Err bad) = (bad ≡ NoRule) × (HasRule n → ⊥)
