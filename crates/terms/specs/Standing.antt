-- A row that stands in a list of cells, and where the trees that stand there end.
use Rattle.std.specs.Prelude.{◌≡◌, ℕ, ◌+◌, List, ◌++◌, drop, Some, None, Option}
use Rattle.terms.specs.Rows.{Row, flat, size, width, Counted}

-- The row t of n trees stands in the cells, from the cell number `at` on.
pub record Stands (t : Row) (n : ℕ) (cells : List ℕ) (at : ℕ) : Type 0 where
  pub counted : Counted t
  pub wide : width t ≡ n
  pub rest : List ℕ
  pub reads : flat t ++ rest ≡ drop at cells

-- n trees stand in the cells, from the cell number `at` on
abbrev pub Standing : ℕ → List ℕ → ℕ → Type 0
Standing n cells at = (t : Row) × Stands t n cells at

-- n trees stand at a cell and end before another, or so many do not
abbrev pub Ends : ℕ → List ℕ → ℕ → Option ℕ → Type 0
Ends n cells at (Some e) = (t : Row) × Stands t n cells at × (e ≡ at + size t)
Ends n cells at None = (t : Row) → Stands t n cells at → ⊥
