-- Down an inner place by an outer context and then by a choice context.
use Rattle.std.specs.Prelude.{◌≡◌, ℕ, ◌+◌, List, ◌++◌, length, Some, None, Option}
use Rattle.terms.specs.Rows.{Row}
use Rattle.verse.specs.Contexts.{Context, ◌⟦◌⟧, place, CX, Down}
use Rattle.verse.specs.Syntax.{Exp}
use Rattle.verse_contexts.specs.declared.scope.Branch.{Branch}
use Rattle.verse_contexts.specs.Frames.{left}

-- S⟦ C⟦ e ⟧ ⟧ down the inner place
pub record Both (Outer : Context → Type 0) (inner : List ℕ) (t : Row) : Type 0 where
  pub S : Context
  pub C : Context
  pub goes : Outer S × CX C
  pub way : inner ≡ place S ++ place C
  pub hole : Row
  pub there : Exp hole
  pub is : t ≡ S ⟦ C ⟦ hole ⟧ ⟧

-- In the term at a cell: where C begins, and where its hole is; or there are none.
abbrev pub Branched : (Context → Type 0) → List ℕ → Row → ℕ → Option Branch → Type 0
Branched Outer inner t at (Some b) = (d : Both Outer inner t) × (b.scope ≡ at + length (left d.S)) × (b.hole ≡ b.scope + length (left d.C))
Branched Outer inner t at None = Both Outer inner t → ⊥

-- the same where the outer context is empty
abbrev pub AtOnce : List ℕ → Row → ℕ → Option Branch → Type 0
AtOnce inner t at (Some b) = (d : Down CX Exp inner t) × (b.scope ≡ at) × (b.hole ≡ at + length (left d.C))
AtOnce inner t at None = Down CX Exp inner t → ⊥
