use Rattle.terms.specs.Rows.{Row}
use Rattle.terms.specs.Terms.{TreeOf}
use Rattle.terms.proofs.Ways.{Come}
use Rattle.terms.proofs.place.down.Given as goal

abbrev pub invariant-loop-k : goal.invariant-loop-k
invariant-loop-k l = (t : Row) → TreeOf l.cells t → Come l.cells l.place t l.k l.at
