-- A tree that fills the cells of a part, and its children.
use Rattle.std.specs.Prelude.{◌≡◌, ℕ, ◌<◌, List, Some, None, Option, ◌≢◌}
use Rattle.std.specs.Borrow.{Bor}
use Rattle.terms.specs.Rows.{Row, ◌&◌}
use Rattle.terms.specs.Rows.Row.{none, node}
use Rattle.terms.specs.Terms.{TreeOf}

-- some tree fills the cells
abbrev pub OneTree : List ℕ → Type 0
OneTree cells = (t : Row) × TreeOf cells t

-- a cell that is there stands before the end
abbrev pub Within : ℕ → ℕ → Option ℕ → Type 0
Within start count (Some c) = start < count
Within start count None = Unit {0}

-- the first cell of a tree
abbrev pub Topped : Row → Option ℕ → Type 0
Topped t (Some c) = (ks : Row) × (t ≡ node c ks none)
Topped t None = ⊥

-- the tree is c over one tree, and that fills the part; or it is none of these
abbrev pub Single : ℕ → Row → Option (Bor (List ℕ)) → Type 0
Single c t (Some p) = (a : Row) × (t ≡ node c a none) × TreeOf p.now a
Single c t None = (a : Row) → t ≢ node c a none

-- the same over two trees
abbrev pub Paired : ℕ → Row → Option (Bor (List ℕ) × Bor (List ℕ)) → Type 0
Paired c t (Some p) = (a b : Row) × (t ≡ node c (a & b) none) × TreeOf p.0.now a × TreeOf p.1.now b
Paired c t None = (a b : Row) → t ≢ node c (a & b) none
