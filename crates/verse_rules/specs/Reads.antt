-- What a part of a redex reads as, and what is made of such parts.
use Rattle.std.specs.Prelude.{◌≡◌, ℕ, ◌<◌, ◌≤◌, List, [], ◌∷◌, ◌++◌, length, drop, Some, Ok, Err, Result, ◌≢◌}
use Rattle.std.specs.Borrow.{Bor}
use Rattle.calculus.specs.declared.no.No.{No}
use Rattle.calculus.specs.declared.no.No.TheVariants.{Formless, Overlong}
use Rattle.pieces.specs.declared.piece.Piece.{Piece}
use Rattle.pieces.specs.Parts.{Topped}
use Rattle.pieces.specs.Shown.{shown_all}
use Rattle.terms.specs.Cells.{kind, payload, cell}
use Rattle.terms.specs.Rows.{Row, flat, size, var, ◌&◌}
use Rattle.terms.specs.Rows.Row.{none, node}
use Rattle.terms.specs.Terms.{TreeOf}
use Rattle.verse.specs.Syntax.{Sort, Lawful, Val, Hnf, seq, eqn, app, int}
use Rattle.verse.specs.Syntax.Sort.{val, hnf, exp}
use Rattle.verse.specs.Lines.{Word, Pair, Binds}

-- A lawful tree of the sort fills the part.
pub record Reads (s : Sort) (t : Row) (part : List ℕ) : Type 0 where
  pub lawful : Lawful (s ∷ []) t
  pub is : TreeOf part t

-- the parts of the form that the tree has, or that it has not
abbrev pub Two : (Row → Row → Row) → Sort → Sort → Row → Result (Bor (List ℕ) × Bor (List ℕ)) No → Type 0
Two form r s t (Ok p) = (a b : Row) × (t ≡ form a b) × Reads r a p.0.now × Reads s b p.1.now
Two form r s t (Err e) = (e ≡ Formless) × ((a b : Row) → t ≢ form a b)

abbrev pub Sole : (Row → Row) → Sort → Row → Result (Bor (List ℕ)) No → Type 0
Sole form s t (Ok p) = (a : Row) × (t ≡ form a) × Reads s a p.now
Sole form s t (Err e) = (e ≡ Formless) × ((a : Row) → t ≢ form a)

-- of v = b; e
abbrev pub Three : Row → Result (Bor (List ℕ) × Bor (List ℕ) × Bor (List ℕ)) No → Type 0
Three t (Ok p) =
    (a b e : Row) × (t ≡ seq (eqn a b) e) × Reads val a p.0.now × Reads exp b p.1.now × Reads exp e p.2.now
Three t (Err f) = (f ≡ Formless) × ((a b e : Row) → t ≢ seq (eqn a b) e)

-- its payload, where it is a leaf of the form
abbrev pub Leaf : (ℕ → Row) → Row → Result ℕ No → Type 0
Leaf form t (Ok k) = Word k × (t ≡ form k)
Leaf form t (Err e) = (e ≡ Formless) × ((k : ℕ) → Word k → t ≢ form k)

-- the payload of its cell, where that has the kind
abbrev pub LeafOf : ℕ → Row → Result ℕ No → Type 0
LeafOf n t (Ok k) = (c : ℕ) × Topped t (Some c) × (kind c ≡ n) × (k ≡ payload c)
LeafOf n t (Err e) = (e ≡ Formless) × ((c : ℕ) → Topped t (Some c) → kind c ≢ n)

-- it is a value, or it is none
abbrev pub Valued : List ℕ → Row → Result (Unit {0}) No → Type 0
Valued part t (Ok u) = Reads val t part
Valued part t (Err e) = (e ≡ Formless) × (Val t → ⊥)

-- it is a head with this cell, or it is none
abbrev pub Headed : List ℕ → Row → Result ℕ No → Type 0
Headed part t (Ok c) = (ks : Row) × (t ≡ node c ks none) × Reads hnf t part
Headed part t (Err e) = (e ≡ Formless) × (Hnf t → ⊥)

-- it is the cell alone, or it is not
abbrev pub Exactly : ℕ → Row → Result (Unit {0}) No → Type 0
Exactly c t (Ok u) = t ≡ node c none none
Exactly c t (Err e) = (e ≡ Formless) × (t ≢ node c none none)

-- ⟨a, b⟩
abbrev pub both : Row → Row → Row
both a b = node (cell 3 0 2 0) (a & b) none

-- the two integers that the operator is applied to
abbrev pub Operands : ℕ → Row → Result (ℕ × ℕ) No → Type 0
Operands op t (Ok p) = Word p.0 × Word p.1 × (t ≡ app (node op none none) (both (int p.0) (int p.1)))
Operands op t (Err e) = (e ≡ Formless) × (Pair (node op none none) t → ⊥)

-- of x = v; e
abbrev pub Bound : Row → Result (ℕ × Bor (List ℕ) × Bor (List ℕ)) No → Type 0
Bound t (Ok p) = (v e : Row) × Word p.0 × (t ≡ seq (eqn (var p.0) v) e) × Reads val v p.1.now × Reads exp e p.2.now
Bound t (Err f) = (f ≡ Formless) × (Binds t → ⊥)

-- the pieces show the cells of the tree
abbrev pub Made : List Piece → Row → Type 0
Made pieces u = shown_all pieces ≡ flat u

-- The tree stands at the front of the space, the other cells as they were; or it has more cells than the space, which stays.
abbrev pub Given : Row → List ℕ → List ℕ → Result ℕ No → Type 0
Given u space space' (Ok n) = (n ≡ size u) × (size u ≤ length space) × (space' ≡ flat u ++ drop (size u) space)
Given u space space' (Err e) = (e ≡ Overlong) × (length space < size u) × (space' ≡ space)
