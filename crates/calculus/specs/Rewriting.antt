-- What follows from the laws alone, for every calculus: a step at a site keeps the whole.
use Rattle.std.specs.Prelude.{◌≡◌, ℕ, ◌<◌, ◌≤◌, List, length}
use Rattle.terms.specs.Terms.{FreeIn, Deep, Laid}
use Rattle.terms.specs.Places.{At, whole}
use Rattle.calculus.specs.Meaning.{Meaning, Gives, most}

-- The cells become these others: the part at a site gives a term, and that is put there.
pub record Rewritten (m : Meaning) (rule argument : ℕ) (cells place inner to : List ℕ) : Type 0 where
  pub left : List ℕ
  pub redex : List ℕ
  pub right : List ℕ
  pub site : m.site place cells
  pub at : At cells place left redex right
  pub result : List ℕ
  pub gives : Gives m rule argument inner redex result
  pub few : length result ≤ most
  pub is : to ≡ whole left result right

pub record StepsKeep (m : Meaning) : Type 0 where
  -- A lawful whole stays lawful.
  pub lawful : (rule argument : ℕ) (cells place inner to : List ℕ) → Rewritten m rule argument cells place inner to → m.lawful to
  -- What is free in it was free before,
  pub free : (rule argument : ℕ) (cells place inner to : List ℕ) → Rewritten m rule argument cells place inner to → (n : ℕ) → FreeIn n to → FreeIn n cells
  -- so a bound on the free numbers survives,
  pub bounded : (rule argument : ℕ) (cells place inner to : List ℕ) → Rewritten m rule argument cells place inner to → (k : ℕ) → ((n : ℕ) → FreeIn n cells → n < k) → (n : ℕ) → FreeIn n to → n < k
  -- a closed whole stays closed,
  pub closed : (rule argument : ℕ) (cells place inner to : List ℕ) → Rewritten m rule argument cells place inner to → ((n : ℕ) → FreeIn n cells → ⊥) → (n : ℕ) → FreeIn n to → ⊥
  -- and the layout stays where cells and depth keep their limits.
  pub laid : (rule argument : ℕ) (cells place inner to : List ℕ) → Rewritten m rule argument cells place inner to → Laid cells → length to ≤ 2048 → ((d : ℕ) → Deep to d → d ≤ 256) → Laid to
