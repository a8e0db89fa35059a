use Rattle.std.proofs.Common.{◌≤◌, length}
use Rattle.terms.specs.Rows.{Row}
use Rattle.rewriting.specs.Matchings.{Facing}
use Rattle.rewriting.proofs.Halfway.{Going}
use Rattle.rewriting.proofs.matching.match_left.Given as goal

abbrev pub invariant-loop-c : goal.invariant-loop-c
invariant-loop-c l =
    (l.n ≤ l.c-index) × ((p ts : Row) → Facing p ts l.patterns l.terms (length l.initial.values) → Going p ts l.patterns l.rest l.values l.c-index l.n)
