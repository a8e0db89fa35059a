-- Going down a place, a child at a time.
use Rattle.std.specs.Prelude.{◌≡◌, ℕ, ◌+◌, ◌<◌, ◌≤◌, List, [], ◌∷◌, length, Some, None, Ok, Err, Option, Result}
use Rattle.terms.specs.declared.place.Astray.{Astray}
use Rattle.terms.specs.declared.place.Astray.TheVariants.{NoTerm, Entry}
use Rattle.terms.specs.Rows.{Row, width, before}
use Rattle.terms.specs.Rows.Row.{none, node}
use Rattle.terms.specs.Standing.{Stands}
use Rattle.terms.specs.Terms.{TreeOf}
use Rattle.terms.specs.Places.{CellAt, Strays}

-- Of a term that stands at a cell: where its child of that number stands, or that it has none.
abbrev pub ChildAt : List ℕ → ℕ → ℕ → Option ℕ → Type 0
ChildAt cells at n (Some i) =
    (c : ℕ) (ks : Row) → Stands (node c ks none) 1 cells at → (n < width ks) × (i ≡ at + length (before (node c ks none) 0 (n ∷ [])))
ChildAt cells at n None = (c : ℕ) (ks : Row) → Stands (node c ks none) 1 cells at → width ks ≤ n

-- the cell that the place reaches, or the first entry that names no child
abbrev pub Reached : List ℕ → List ℕ → Result ℕ ℕ → Type 0
Reached cells place (Ok i) = CellAt cells place i
Reached cells place (Err k) = Strays place cells k

-- the same of any cells
abbrev pub Descended : List ℕ → List ℕ → Result ℕ Astray → Type 0
Descended cells place (Ok i) = CellAt cells place i
Descended cells place (Err (Entry k)) = Strays place cells k
Descended cells place (Err NoTerm) = (t : Row) → TreeOf cells t → ⊥
