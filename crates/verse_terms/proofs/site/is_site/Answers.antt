use Rattle.std.proofs.Common.{arith}
use Rattle.terms.proofs.Deciding.{fails}
use Rattle.verse_terms.proofs.Sites.{gone_none, gone_more, gone_astray}
use Rattle.verse_terms.proofs.site.is_site.Goals as goal

pub loop-entry-init : goal.loop-entry-init
loop-entry-init c = λ t h e. gone_none _ _ t h e

pub returns-in_default : goal.returns-in_default
returns-in_default c = λ t h e. fails (gone_astray _ _ t _ _ _ (c.loop-entry.invariant t h e) (omega arith) c.in_default.ensures)

pub loop-entry-preserved : goal.loop-entry-preserved
loop-entry-preserved c = λ t h e. gone_more _ _ t _ _ _ (c.loop-entry.invariant t h e) (omega arith) _ _ c.in-Some.ensures c.child_sort-sort.ensures
