-- The cells that pieces show, one piece after the other.
use Rattle.std.specs.Prelude.{◌≡◌, ℕ, ◌<◌, ◌≤◌, List, [], ◌∷◌, ◌++◌, length, drop, Some, None, Option}
use Rattle.moves.specs.Renamings.{renamed}
use Rattle.pieces.specs.declared.piece.Piece.{Piece}
use Rattle.pieces.specs.declared.piece.Piece.TheVariants.{Cell, Copy, Moved}
use Rattle.terms.specs.Rows.{flat, rename}
use Rattle.terms.specs.Reading.{trees}

-- what a piece shows
abbrev pub shown : Piece → List ℕ
shown (Cell c) = c ∷ []
shown (Copy cells) = cells.now
shown (Moved m) = flat (rename (renamed m.how) 0 0 (trees m.cells.now))

abbrev pub shown_all : List Piece → List ℕ
shown_all [] = []
shown_all (p ∷ ps) = shown p ++ shown_all ps

-- so many cells, if there is room for them
abbrev pub Counted : ℕ → ℕ → Option ℕ → Type 0
Counted count room (Some n) = (n ≡ count) × (count ≤ room)
Counted count room None = room < count

-- The cells stand at the front of the space, the others as they were; or they are more than the space, which stays.
abbrev pub Put : List ℕ → List ℕ → List ℕ → Option ℕ → Type 0
Put xs space space' (Some n) = (n ≡ length xs) × (n ≤ length space) × (space' ≡ xs ++ drop n space)
Put xs space space' None = (length space < length xs) × (space' ≡ space)
