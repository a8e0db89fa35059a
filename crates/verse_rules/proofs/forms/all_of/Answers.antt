use Rattle.std.proofs.Common.{refl}
use Rattle.verse.specs.Syntax.{kids}
use Rattle.verse.specs.Syntax.Sort.{exp}
use Rattle.verse_rules.proofs.Lawfuls.{sole}
use Rattle.verse_rules.proofs.forms.all_of.Goals as goal

pub returns : goal.returns
unfolding kids
returns c = λ s t h. sole s t _ _ h exp c.only.result _ refl (c.only.ensures t h.is) c.ok_or.ensures.value
