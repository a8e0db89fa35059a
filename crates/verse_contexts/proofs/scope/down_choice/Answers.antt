use Rattle.std.proofs.Common.{refl}
use Rattle.verse_contexts.proofs.scope.down_choice.Goals as goal

pub returns : goal.returns
returns c = λ t h s. let d = c.in_ok-hole.ensures t h s in (d.0, refl, d.1)
