-- The line that each verdict is printed as, without its end.
use Rattle.std.specs.Prelude.{ℕ, List, ◌++◌, Result, Ok, Err, codes, decimal}
use Rattle.layout.specs.declared.Fault.{Fault}
use Rattle.layout.specs.declared.Fault.TheVariants.{Memory, Cell}

abbrev pub line : Result (ℕ × ℕ) Fault → List ℕ
line (Ok v) = codes "term " ++ (decimal v.0 ++ (codes " " ++ decimal v.1))
line (Err (Cell place)) = codes "refused term 4 0 " ++ decimal place
line (Err Memory) = codes "refused memory 1 0 0"
