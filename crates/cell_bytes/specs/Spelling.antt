-- Numbers of 64 bits in bytes, most significant first.
use Rattle.std.specs.Prelude.{◌≡◌, ℕ, ◌*◌, ◌/◌, ◌%◌, ◌^◌, ◌<◌, min, List, [], ◌∷◌, ◌++◌, length, take, drop}
use Rattle.terms.specs.Lists.{All}

-- the eight bytes of a number of 64 bits
abbrev pub spell_cell : ℕ → List ℕ
spell_cell c =
    c / 2 ^ 56 ∷ c / 2 ^ 48 % 256 ∷ c / 2 ^ 40 % 256 ∷ c / 2 ^ 32 % 256 ∷ c / 2 ^ 24 % 256 ∷ c / 2 ^ 16 % 256 ∷ c / 2 ^ 8 % 256 ∷ c % 256 ∷ []

-- one after the other
abbrev pub spell : {A : Type 0} → (A → List ℕ) → List A → List ℕ
spell f [] = []
spell f (x ∷ xs) = f x ++ spell f xs

-- The first n cells are spelt by the first bytes, as many as both have room for; the other cells stay.
pub record CellsRead (bytes old new : List ℕ) (n : ℕ) : Type 0 where
  pub count : n ≡ min (length bytes / 8) (length old)
  pub words : All (λ c. c < 2 ^ 64) (take n new)
  pub spelt : spell spell_cell (take n new) ≡ take (8 * n) bytes
  pub others : drop n new ≡ drop n old
