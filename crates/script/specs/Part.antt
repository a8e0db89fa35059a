-- Parts of lists.
use Rattle.std.specs.Prelude.{◌≡◌, ℕ, ◌+◌, ◌≤◌, List, ◌++◌, length}
use Rattle.script.specs.declared.part.Part.{Part}

-- the part begins before it ends, and ends within the list
abbrev pub LiesIn : {T : Type 0} → Part → List T → Type 0
LiesIn part all = (part.start ≤ part.end) × (part.end ≤ length all)

-- the part that these are of a list behind which they are put
abbrev pub behind : List ℕ → List ℕ → Part
behind all more = record { start = length all; end = length all + length more }

-- the list as it becomes when they are put behind it, and that part
abbrev pub Puts : List ℕ → List ℕ → List ℕ → Part → Type 0
Puts more old new part = (new ≡ old ++ more) × (part ≡ behind old more)
