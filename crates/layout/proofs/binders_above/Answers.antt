use Rattle.std.proofs.Common.{rules}
use Rattle.layout.proofs.Opens.{last_above, more_above}
use Rattle.layout.proofs.binders_above.Goals as goal

pub returns-then-top-eq1 : goal.returns-then-top-eq1
returns-then-top-eq1 c = λ up e h. last_above _ c.in-Some.field-0.now up (search rules) e (search rules) h c.if-top-eq1.true

pub returns-else-top-eq1 : goal.returns-else-top-eq1
returns-else-top-eq1 c = λ up e h. more_above _ c.in-Some.field-0.now up (search rules) e (search rules) h c.if-top-eq1.false
