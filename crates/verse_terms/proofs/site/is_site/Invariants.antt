use Rattle.std.proofs.Common.{◌≡◌}
use Rattle.terms.specs.Rows.{Row, flat}
use Rattle.verse.specs.Syntax.{Term}
use Rattle.verse_terms.specs.Sorts.{sort_of}
use Rattle.verse_terms.proofs.Sites.{Gone}
use Rattle.verse_terms.proofs.site.is_site.Given as goal

abbrev pub invariant-loop-entry : goal.invariant-loop-entry
invariant-loop-entry l = (t : Row) → Term t → flat t ≡ l.cells → Gone l.cells l.place t l.entry-index l.at (sort_of l.sort)
