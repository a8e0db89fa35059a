-- What renaming and substitution keep.
use Rattle.std.specs.Prelude.{◌≡◌, ℕ, ◌+◌, ◌-◌, ◌^◌, ◌<◌, ◌≤◌, ◌⊎◌, map, ◌≢◌}
use Rattle.terms.specs.Rows.{Row, size, width, depth, fvs, Free, rename, raise, up, down, substitute, replace, instantiate, Formed, Below}

-- a formed tree whose variables have payloads up to m
pub record Small (m : ℕ) (t : Row) : Type 0 where
  pub formed : Formed t
  pub below : Below m t

-- renaming keeps size, width and depth
abbrev pub ShapeKept : Type 0
ShapeKept = (f : ℕ → ℕ) (d b : ℕ) (t : Row) → (size (rename f d b t) ≡ size t) × (width (rename f d b t) ≡ width t) × (depth (rename f d b t) ≡ depth t)

-- Raised by n, a row is formed, and its free numbers are those it had, raised by n.
abbrev pub RaisedFormed : Type 0
RaisedFormed = (n m : ℕ) (t : Row) → Small m t → m + n < 2 ^ 32 → Small (m + n) (raise n t)

abbrev pub RaisedFree : Type 0
RaisedFree = (n m : ℕ) (t : Row) → Small m t → m + n < 2 ^ 32 → fvs (raise n t) ≡ map (λ x. x + n) (fvs t)

-- The same of a row lowered by one.
abbrev pub LoweredFormed : Type 0
LoweredFormed = (m : ℕ) (t : Row) → Small m t → m < 2 ^ 32 → Small m (down t)

abbrev pub LoweredFree : Type 0
LoweredFree = (m : ℕ) (t : Row) → Small m t → m < 2 ^ 32 → fvs (down t) ≡ map (λ x. x - 1) (fvs t)

-- lowering undoes raising by one
abbrev pub LowerUndoes : Type 0
LowerUndoes = (m : ℕ) (t : Row) → Small m t → m + 1 < 2 ^ 32 → down (up t) ≡ t

-- a term put under a binder that no variable of it has, and the binder instantiated
abbrev pub InstantiateUndoes : Type 0
InstantiateUndoes = (v : Row) (m : ℕ) (t : Row) → Small m t → m + 1 < 2 ^ 32 → instantiate v (up t) ≡ t

-- no formed row shrinks where terms are put for its variables
abbrev pub NeverShrinks : Type 0
NeverShrinks = (s : ℕ → Row) → ((n : ℕ) → width (s n) ≡ 1) → (d b : ℕ) (t : Row) → Formed t → size t ≤ size (substitute s d b t)

-- With terms put for its variables, a row is formed, and free in it is only what is free in the term put for a
-- free number.
abbrev pub SubstitutedFormed : Type 0
SubstitutedFormed = (s : ℕ → Row) (m : ℕ) (t : Row) → ((n : ℕ) → width (s n) ≡ 1) → ((n : ℕ) → n ≤ m → Small m (s n)) → Small m t → m + size t < 2 ^ 32 → Formed (substitute s 0 0 t)

abbrev pub SubstitutedFree : Type 0
SubstitutedFree = (s : ℕ → Row) (m : ℕ) (t : Row) → ((n : ℕ) → width (s n) ≡ 1) → ((n : ℕ) → n ≤ m → Small m (s n)) → Small m t → m + size t < 2 ^ 32 → (x : ℕ) → Free x (substitute s 0 0 t) → (n : ℕ) × Free n t × Free x (s n)

-- Free in t{v/x}: what is free in v, if x is free in t, and what is free in t, x aside.
abbrev pub ReplacedFree : Type 0
ReplacedFree = (v t : Row) (x m : ℕ) → width v ≡ 1 → Small m v → Small m t → m + size t < 2 ^ 32 → (y : ℕ) → Free y (replace v x t) → (Free x t × Free y v) ⊎ (Free y t × (y ≢ x))

-- With v for the variable of the nearest binder, the other free numbers are less by one.
abbrev pub InstantiatedFree : Type 0
InstantiatedFree = (v t : Row) (m : ℕ) → width v ≡ 1 → Small m v → Small m t → m + size t < 2 ^ 32 → (y : ℕ) → Free y (instantiate v t) → (Free 0 t × Free y v) ⊎ Free (y + 1) t

pub record MovesKeep : Type 0 where
  pub shape : ShapeKept
  pub raised : RaisedFormed
  pub raised_free : RaisedFree
  pub lowered : LoweredFormed
  pub lowered_free : LoweredFree
  pub undone : LowerUndoes
  pub instantiated : InstantiateUndoes
  pub grows : NeverShrinks
  pub substituted : SubstitutedFormed
  pub substituted_free : SubstitutedFree
  pub replaced_free : ReplacedFree
  pub instantiated_free : InstantiatedFree
