-- What stands for the free variables of a term.
use Rattle.std.specs.Prelude.{◌≡◌, ℕ, ◌-◌, cond, List, [], ◌∷◌, length, map, ◌==◌, nat_lt, slice_index_or}
use Rattle.std.specs.Borrow.{Bor}
use Rattle.terms.specs.Rows.{Row, size, var, «for», instead}
use Rattle.terms.specs.Terms.{TreeOf}
use Rattle.moves.specs.declared.images.Image.{Image}
use Rattle.moves.specs.declared.images.Image.TheVariants.{Tree, Number}
use Rattle.moves.specs.declared.images.Substitution.{Substitution}
use Rattle.moves.specs.declared.images.Substitution.TheVariants.{Replace, Instead, Bindings}

-- no cells
abbrev pub nothing : Bor (List ℕ)
nothing = record { ref_ptr = (0, 0); now = [] }

-- the tree of the binding number n, and past the last one n itself
abbrev pub bound_of : List (Bor (List ℕ)) → ℕ → Image
bound_of vs n = cond (nat_lt n (length vs)) (Tree (slice_index_or vs n nothing)) (Number n)

-- what stands for the free number n
abbrev pub image_of : Substitution → ℕ → Image
image_of (Replace x v) n = cond (n == x) (Tree v) (Number n)
image_of (Instead v) n = cond (n == 0) (Tree v) (Number (n - 1))
image_of (Bindings vs) n = bound_of vs.now n

-- how many cells it has
abbrev pub extent : Image → ℕ
extent (Tree v) = length v.now
extent (Number m) = 1

-- the tree that it is
abbrev pub Shown : Image → Row → Type 0
Shown (Tree v) t = TreeOf v.now t
Shown (Number m) t = t ≡ var m

-- s n is the tree that stands for every free number n
abbrev pub Shows : Substitution → (ℕ → Row) → Type 0
Shows how s = (n : ℕ) → Shown (image_of how n) (s n)

-- and has so many cells
abbrev pub Sizes : Substitution → (ℕ → Row) → Type 0
Sizes how s = (n : ℕ) → extent (image_of how n) ≡ size (s n)

-- one value, with these cells, is all that there is to put
abbrev pub Puts : Substitution → List ℕ → Type 0
Puts (Replace x v) cells = v.now ≡ cells
Puts (Instead v) cells = v.now ≡ cells
Puts (Bindings vs) cells = map (λ v. v.now) vs.now ≡ cells ∷ []

-- the trees that then stand for the free numbers, if the value is v
abbrev pub puts : Substitution → Row → ℕ → Row
puts (Replace x a) v = «for» v x
puts (Instead a) v = instead v
puts (Bindings bs) v = «for» v 0
