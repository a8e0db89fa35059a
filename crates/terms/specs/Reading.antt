-- The trees that cells read as, side by side. The trees of a row cut after a number of them.
use Rattle.std.specs.Prelude.{ℕ, zero, suc, List, [], ◌∷◌}
use Rattle.terms.specs.Cells.{children}
use Rattle.terms.specs.Rows.{Row}
use Rattle.terms.specs.Rows.Row.{none, node}

-- the first n trees of a row
abbrev pub first : ℕ → Row → Row
first zero r = none
first (suc n) none = none
first (suc n) (node c ks r) = node c ks (first n r)

-- the others
abbrev pub rest : ℕ → Row → Row
rest zero r = r
rest (suc n) none = none
rest (suc n) (node c ks r) = rest n r

-- A cell takes as many of the trees that follow it as it has children.
abbrev pub trees : List ℕ → Row
trees [] = none
trees (c ∷ cs) = node c (first (children c) (trees cs)) (rest (children c) (trees cs))
