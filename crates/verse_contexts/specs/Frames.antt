-- The cells around the hole of a context.
use Rattle.std.specs.Prelude.{ℕ, List, [], ◌∷◌, ◌++◌}
use Rattle.terms.specs.Cells.{cell}
use Rattle.terms.specs.Rows.{flat}
use Rattle.verse.specs.Contexts.{Context}
use Rattle.verse.specs.Contexts.Context.{□, in_equation, in_first, in_second, in_exists, in_left, in_right, in_one, in_all}

-- left of it
abbrev pub left : Context → List ℕ
left □ = []
left (in_equation v C e) = cell 6 0 2 0 ∷ cell 7 0 2 0 ∷ flat v ++ left C
left (in_first C e) = cell 6 0 2 0 ∷ left C
left (in_second q C) = cell 6 0 2 0 ∷ flat q ++ left C
left (in_exists C) = cell 8 1 1 0 ∷ left C
left (in_left C e) = cell 10 0 2 0 ∷ left C
left (in_right e C) = cell 10 0 2 0 ∷ flat e ++ left C
left (in_one C) = cell 11 0 1 0 ∷ left C
left (in_all C) = cell 12 0 1 0 ∷ left C

-- right of it
abbrev pub right : Context → List ℕ
right □ = []
right (in_equation v C e) = right C ++ flat e
right (in_first C e) = right C ++ flat e
right (in_second q C) = right C
right (in_exists C) = right C
right (in_left C e) = right C ++ flat e
right (in_right e C) = right C
right (in_one C) = right C
right (in_all C) = right C
