-- Any grammar: what is answered of the cells from one on.
use Rattle.std.specs.Prelude.{ℕ, Bool, List, Ok, Err, Result}
use Rattle.terms.specs.Grammar.{Stuck, Lies}

module _ {S : Type 0} (admits : S → ℕ → Bool) (kids : S → ℕ → List S) where
  -- where a lawful row that lies from a cell on ends, and its depth; or the first cell where none can go on, else the count
  abbrev pub JudgedFrom : List S → List ℕ → ℕ → Result (ℕ × ℕ) ℕ → Type 0
  JudgedFrom ss cells at (Ok v) = Lies admits kids ss cells at v.0 v.1
  JudgedFrom ss cells at (Err i) = Stuck admits kids ss cells at i
