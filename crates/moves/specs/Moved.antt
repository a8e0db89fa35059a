-- A term moved into a space: what is written there, or why it is not.
use Rattle.std.specs.Prelude.{◌≡◌, ℕ, ◌<◌, ◌≤◌, List, ◌++◌, length, drop, Some, None, Ok, Err, Option, Result}
use Rattle.terms.specs.Forest.{Are}
use Rattle.terms.specs.Rows.{Row, flat, size, substitute}
use Rattle.terms.specs.Terms.{TreeOf}
use Rattle.terms.specs.declared.forest.Trees.{Trees}
use Rattle.moves.specs.declared.Unmoved.{Unmoved}
use Rattle.moves.specs.declared.Unmoved.TheVariants.{NoTerm, NoValue, NoRoom}
use Rattle.moves.specs.declared.images.Substitution.{Substitution}
use Rattle.moves.specs.Images.{puts}

-- the cells as one tree, if they are one term
abbrev pub OneTerm : List ℕ → Option Trees → Type 0
OneTerm cells (Some trees) = (t : Row) × TreeOf cells t × Are trees t
OneTerm cells None = (t : Row) → TreeOf cells t → ⊥

-- the n cells of t stand at the front of the space, the others as they were
pub record Written (t : Row) (space space' : List ℕ) (n : ℕ) : Type 0 where
  pub count : n ≡ size t
  pub fits : n ≤ length space
  pub writes : space' ≡ flat t ++ drop n space

-- The term's tree t moved to f t. Where it is not, the space is as it was.
abbrev pub Moved : (Row → Row) → List ℕ → List ℕ → List ℕ → Result ℕ Unmoved → Type 0
Moved f cells space space' (Ok n) = (t : Row) × TreeOf cells t × Written (f t) space space' n
Moved f cells space space' (Err NoTerm) = (space' ≡ space) × ((t : Row) → TreeOf cells t → ⊥)
Moved f cells space space' (Err NoValue) = ⊥
Moved f cells space space' (Err NoRoom) = (space' ≡ space) × ((t : Row) × TreeOf cells t × length space < size (f t))

-- The same with a value, whose tree is v: the term's tree t moved to f v t.
abbrev pub MovedWith : (Row → Row → Row) → List ℕ → List ℕ → List ℕ → List ℕ → Result ℕ Unmoved → Type 0
MovedWith f cells value space space' (Ok n) = (t v : Row) × TreeOf cells t × TreeOf value v × Written (f v t) space space' n
MovedWith f cells value space space' (Err NoTerm) = (space' ≡ space) × ((t : Row) → TreeOf cells t → ⊥)
MovedWith f cells value space space' (Err NoValue) = (space' ≡ space) × ((t : Row) × TreeOf cells t) × ((v : Row) → TreeOf value v → ⊥)
MovedWith f cells value space space' (Err NoRoom) = (space' ≡ space) × ((t v : Row) × TreeOf cells t × TreeOf value v × length space < size (f v t))

-- the term t with the value v for one of its free variables
abbrev pub put : Substitution → Row → Row → Row
put how v t = substitute (puts how v) 0 0 t
