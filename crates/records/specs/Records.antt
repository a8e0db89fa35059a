-- Steps in bytes, most significant first.
use Rattle.std.specs.Prelude.{◌≡◌, ℕ, ◌+◌, ◌*◌, ◌/◌, ◌%◌, ◌^◌, ◌<◌, List, [], ◌∷◌, ◌++◌, length}
use Rattle.terms.specs.Lists.{All}
use Rattle.runs.specs.Steps.{Step}

-- rule 6, place length 9, inner length 9, argument 8 bits
abbrev pub head_of : Step → ℕ
head_of s = s.rule * 2 ^ 26 + length s.place * 2 ^ 17 + length s.inner * 2 ^ 8 + s.argument

-- a step: the four bytes of its head, then one byte an entry
abbrev pub spell_step : Step → List ℕ
spell_step s =
    (head_of s / 2 ^ 24 ∷ head_of s / 2 ^ 16 % 256 ∷ head_of s / 2 ^ 8 % 256 ∷ head_of s % 256 ∷ []) ++ (s.place ++ s.inner)

-- what has such bytes
pub record Spelt (s : Step) : Type 0 where
  pub rule : s.rule < 2 ^ 6
  pub place : length s.place < 2 ^ 9
  pub inner : length s.inner < 2 ^ 9
  pub argument : s.argument < 2 ^ 8
  pub place_entries : All (λ j. j < 2 ^ 8) s.place
  pub inner_entries : All (λ j. j < 2 ^ 8) s.inner

-- so many steps
abbrev pub Steps : ℕ → List Step → Type 0
Steps n steps = (length steps ≡ n) × All Spelt steps
