-- Whether a free variable occurs, by what the search for it answers. Assumes nothing.
use Rattle.std.proofs.Common.{◌≡◌, ℕ, true, false, is_some, Some, None, Option, arith}
use Rattle.terms.specs.Lists.{In}
use Rattle.terms.specs.Rows.{Row, frees}
use Rattle.moves.specs.Occurrences.{FirstFree}

pub found_free : (x d b : ℕ) (t : Row) (at : ℕ) (r : Option ℕ) → FirstFree x d b t at r → true ≡ is_some r → In x (frees d b t)
found_free x d b t at (Some i) f e = f.2.free
found_free x d b t at None f e = let z : ◌≡◌ {A = ℕ} 0 1 = cc in absurd (omega arith)

pub not_free : (x d b : ℕ) (t : Row) (at : ℕ) (r : Option ℕ) → FirstFree x d b t at r → false ≡ is_some r → In x (frees d b t) → ⊥
not_free x d b t at (Some i) f e = let z : ◌≡◌ {A = ℕ} 0 1 = cc in absurd (omega arith)
not_free x d b t at None f e = f
