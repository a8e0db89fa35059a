-- The calculi that a script can name.
use Rattle.std.specs.Prelude.{◌≡◌, ℕ, Result}
use Rattle.std.specs.Result.{OkIff}
use Rattle.script.specs.declared.calculus.Calculus.{Calculus}
use Rattle.script.specs.declared.calculus.Calculus.TheVariants.{LetRewriting}
use Rattle.script.specs.declared.fault.Bad.{Bad}

-- the number names one: 2 is let-rewriting
abbrev pub Names : ℕ → Result Calculus Bad → Type 0
Names n r = OkIff r (n ≡ 2) LetRewriting
