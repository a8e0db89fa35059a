-- One number for the layout judge's answer.
use Rattle.std.specs.Prelude.{◌≡◌, List, ◌⊎◌, ℕ}
use Rattle.terms.specs.Terms.{Laid}
use Rattle.terms.specs.Layout.{Kept}

-- the depth of a term that keeps the layout, and 0 for other cells
abbrev pub DepthOf : List ℕ → ℕ → Type 0
DepthOf cells r = ((n : ℕ) × Kept cells n r) ⊎ ((r ≡ 0) × (Laid cells → ⊥))
