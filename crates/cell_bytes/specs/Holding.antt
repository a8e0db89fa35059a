-- What bytes hold exactly, and the first byte that is lacking or left over where they do not.
use Rattle.std.specs.Prelude.{◌≡◌, ℕ, ◌^◌, ◌<◌, ◌⊎◌, List, ◌∷◌, ◌++◌, length, Some, None, Option}
use Rattle.terms.specs.Lists.{All}
use Rattle.cell_bytes.specs.Spelling.{spell_cell, spell}

-- The bytes hold exactly what is so and spelt so.
pub record Holds {A : Type 0} (P : A → Type 0) (f : A → List ℕ) (bytes : List ℕ) (x : A) : Type 0 where
  pub good : P x
  pub spelt : bytes ≡ f x

-- They do not, and i is the first byte lacking, or left over.
pub record Lacking {A : Type 0} (P : A → Type 0) (f : A → List ℕ) (bytes : List ℕ) (i : ℕ) : Type 0 where
  pub it : A
  pub good : P it
  pub byte : ℕ
  pub more : List ℕ
  pub begun : bytes ++ (byte ∷ more) ≡ f it
  pub is : i ≡ length bytes

pub record LeftOver {A : Type 0} (P : A → Type 0) (f : A → List ℕ) (bytes : List ℕ) (i : ℕ) : Type 0 where
  pub it : A
  pub good : P it
  pub byte : ℕ
  pub more : List ℕ
  pub passed : bytes ≡ f it ++ (byte ∷ more)
  pub is : i ≡ length (f it)

abbrev pub Amiss : {A : Type 0} → (A → Type 0) → (A → List ℕ) → List ℕ → ℕ → Type 0
Amiss P f bytes i = Lacking P f bytes i ⊎ LeftOver P f bytes i

-- the byte that is told, or none where they hold exactly that
abbrev pub Measured : {A : Type 0} → (A → Type 0) → (A → List ℕ) → List ℕ → Option ℕ → Type 0
Measured {A} P f bytes None = (x : A) × Holds P f bytes x
Measured P f bytes (Some i) = Amiss P f bytes i

-- so many cells
abbrev pub Cell : ℕ → Type 0
Cell c = c < 2 ^ 64

abbrev pub Cells : ℕ → List ℕ → Type 0
Cells n cells = (length cells ≡ n) × All Cell cells

-- the same of bytes that are to hold so many cells
abbrev pub CellsMeasured : ℕ → List ℕ → Option ℕ → Type 0
CellsMeasured n bytes r = Measured (Cells n) (spell spell_cell) bytes r
