-- What holds of cells, trees and places, whatever the calculus.
use Rattle.std.specs.Prelude.{◌≡◌, ℕ, ◌^◌, ◌<◌, List, [], ◌++◌, length, None, Result}
use Rattle.terms.specs.Lists.{All}
use Rattle.terms.specs.Rows.{Row, size, pick, put}
use Rattle.terms.specs.Terms.{TreeOf, Deep, FreeIn, Laid}
use Rattle.terms.specs.Places.{At, whole, Strays}
use Rattle.terms.specs.Layout.{parents, Wrong, LayoutJudged}

pub record TermFacts : Type 0 where
  -- Cells have one tree, and no term is a proper front of another.
  pub one_tree : (cells : List ℕ) (s t : Row) → TreeOf cells s → TreeOf cells t → s ≡ t
  pub no_front : (cells more : List ℕ) (s t : Row) → TreeOf cells s → TreeOf (cells ++ more) t → more ≡ []
  -- its size is the number of its cells, and its depth is one
  pub sized : (cells : List ℕ) (t : Row) → TreeOf cells t → size t ≡ length cells
  pub one_depth : (cells : List ℕ) (d e : ℕ) → Deep cells d → Deep cells e → d ≡ e
  -- A place has one part, with the cells left and right of it, and these three are the whole.
  pub one_part : (cells place l p r l' p' r' : List ℕ) → At cells place l p r → At cells place l' p' r' → (l ≡ l') × (p ≡ p') × (r ≡ r')
  pub joined : (cells place l p r : List ℕ) → At cells place l p r → cells ≡ l ++ (p ++ r)
  pub part : (cells place l p r : List ℕ) (a : At cells place l p r) → TreeOf p (pick a.tree 0 place)
  pub one_stray : (place cells : List ℕ) (j k : ℕ) → Strays place cells j → Strays place cells k → j ≡ k
  -- Another term at the place: the cells left of it, its own, those right of it.
  pub put_there : (cells place l p r new : List ℕ) (a : At cells place l p r) (t : Row) → TreeOf new t → TreeOf (whole l new r) (put a.tree 0 place t)
  -- what is free then was free before, if what is free in the new part was free in the old
  pub put_free : (cells place l p r new : List ℕ) (n : ℕ) → At cells place l p r → (t : Row) → TreeOf new t → ((k : ℕ) → FreeIn k new → FreeIn k p) → FreeIn n (whole l new r) → FreeIn n cells
  -- Cells of 64 bits keep the layout exactly where none is wrong and the walk ends with the last.
  pub laid_if : (cells : List ℕ) → All (λ c. c < 2 ^ 64) cells → ((i : ℕ) → i < length cells → Wrong cells i → ⊥) → parents cells (length cells) ≡ None → Laid cells
  pub laid_only_if : (cells : List ℕ) → Laid cells → ((i : ℕ) → i < length cells → Wrong cells i → ⊥) × (parents cells (length cells) ≡ None)
  -- The layout judge has one answer.
  pub one_answer : (cells : List ℕ) (a b : Result (ℕ × ℕ) ℕ) → LayoutJudged cells a → LayoutJudged cells b → a ≡ b
