-- A term with another term at a place: its tree, and what is free in it. Assumes nothing.
use Rattle.std.proofs.Common.{ℕ, zero, suc, List, [], ◌∷◌, sym, refl, ◌∙◌, subst, inl, inr}
use Rattle.terms.specs.Lists.{In, All}
use Rattle.terms.specs.Rows.{Row, frees, pick, put, Counted}
use Rattle.terms.specs.Rows.Row.{none, node}
use Rattle.terms.specs.Terms.{TreeOf, FreeIn}
use Rattle.terms.specs.Places.{At, whole}
use Rattle.terms.proofs.Trees.{put_width, put_counted, put_flat, pick_one}
use Rattle.terms.proofs.Unique.{one_tree}
use Rattle.terms.proofs.Frees.{put_frees}

module _ (cells place l x r new : List ℕ) (a : At cells place l x r) (t : Row) (is : TreeOf new t) where
  -- the tree of the whole
  pub whole_tree : TreeOf (whole l new r) (put a.tree 0 place t)
  whole_tree =
      record {
        one = put_width a.tree 0 place t is.one ∙ a.is.one;
        counted = put_counted a.tree 0 place t is.one a.is.counted is.counted;
        reads = put_flat a.tree 0 place t a.there ∙ rw (a.lefts, a.rights, is.reads);
      }

pub pick_counted : (s : Row) (i : ℕ) (p : List ℕ) → Counted s → Counted (pick s i p)
pick_counted none i p h = tt
pick_counted (node c ks r) zero [] h = (h.0, h.1, h.2, tt)
pick_counted (node c ks r) zero (j ∷ p) h = pick_counted ks j p h.2
pick_counted (node c ks r) (suc i) p h = pick_counted r i p h.3

-- the part at a place is a term
pub part_tree : (cells place l x r : List ℕ) (a : At cells place l x r) → TreeOf x (pick a.tree 0 place)
part_tree cells place l x r a =
    record { one = pick_one a.tree 0 place a.there; counted = pick_counted a.tree 0 place a.is.counted; reads = sym a.parts }

-- a free number of the term, read off its tree
pub free_in : (n : ℕ) (cells : List ℕ) (t : Row) → TreeOf cells t → FreeIn n cells → In n (frees 0 0 t)
free_in n cells t is f = subst (λ s. In n (frees 0 0 s)) (one_tree cells f.tree t f.is is) f.free

-- What is free in the whole was free before, if what is free in the new part was free in the old.
pub whole_free : (cells place l x r new : List ℕ) (n : ℕ) → At cells place l x r → (t : Row) → TreeOf new t → ((k : ℕ) → FreeIn k new → FreeIn k x) → FreeIn n (whole l new r) → FreeIn n cells
whole_free cells place l x r new n a t is f g =
    let old = part_tree cells place l x r a in
    let each : (k : ℕ) → In k (frees 0 0 t) → In k (frees 0 0 (pick a.tree 0 place)) =
    λ k h. free_in k x (pick a.tree 0 place) old (f k (record { tree = t; is = is; free = h })) in
    let h = free_in n (whole l new r) (put a.tree 0 place t) (whole_tree cells place l x r new a t is) g in
    record { tree = a.tree; is = a.is; free = put_frees n 0 0 a.tree 0 place t is.one a.there each h }

pub all_in : (P : ℕ → Type 0) (xs : List ℕ) (n : ℕ) → All P xs → In n xs → P n
all_in P [] n a h = absurd h
all_in P (x ∷ xs) n a (inl e) = subst P (sym e) a.0
all_in P (x ∷ xs) n a (inr h) = all_in P xs n a.1 h

pub in_all : (P : ℕ → Type 0) (xs : List ℕ) → ((n : ℕ) → In n xs → P n) → All P xs
in_all P [] f = tt
in_all P (x ∷ xs) f = (f x (inl refl), in_all P xs (λ n h. f n (inr h)))
