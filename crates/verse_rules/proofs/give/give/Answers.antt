use Rattle.verse_rules.proofs.Makes.{given_put}
use Rattle.verse_rules.proofs.give.give.Goals as goal

pub returns : goal.returns
returns c = λ u m. given_put u _ _ _ c.write.result _ m c.write.ensures c.ok_or.ensures.value
