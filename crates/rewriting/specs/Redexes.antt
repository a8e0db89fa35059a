-- A redex in the hands of the code, and its parts.
use Rattle.std.specs.Prelude.{◌≡◌, ℕ, List, Ok, Err, Result}
use Rattle.terms.specs.Rows.{Row, flat}
use Rattle.terms.specs.Forest.{Are}
use Rattle.calculus.specs.declared.no.No.{No}
use Rattle.calculus.specs.declared.no.No.TheVariants.{Formless}
use Rattle.calculus.specs.Line as Line
use Rattle.lets.specs.Syntax.{Term}
use Rattle.lets.specs.Figure.{Let, Carries}
use Rattle.rewriting.specs.declared.redex.Redex.{Redex}
use Rattle.rewriting.specs.declared.redex.LetParts.{LetParts}
use Rattle.rewriting.specs.declared.redex.SymbolParts.{SymbolParts}

-- the row t is this term
abbrev pub Is : Redex → Row → Type 0
Is redex t = Term t × (flat t ≡ redex.cells.now)

-- The cells are a lawful term with no variable payload above 65,535, and this is it; or they are none.
abbrev pub Read : List ℕ → Result Redex No → Type 0
Read cells (Ok redex) = (redex.cells.now ≡ cells) × Line.Redex Term cells
Read cells (Err bad) = (bad ≡ Formless) × (Line.Redex Term cells → ⊥)

-- what a let binds and its body, if the term is one
abbrev pub HasLetParts : Row → Result LetParts No → Type 0
HasLetParts t (Ok p) = (l : Let t) × (flat l.a ≡ p.bound.cells.now) × (flat l.e ≡ p.body.cells.now)
HasLetParts t (Err bad) = (bad ≡ Formless) × (Let t → ⊥)

-- the child of that number and what is around it, if the term is a symbol that has one
abbrev pub HasSymbolParts : ℕ → Row → Result SymbolParts No → Type 0
HasSymbolParts n t (Ok p) = (l : Carries n t) × (p.head ≡ l.h) × Are p.before l.before × (flat l.e ≡ p.child.cells.now) × Are p.after l.after
HasSymbolParts n t (Err bad) = (bad ≡ Formless) × (Carries n t → ⊥)
