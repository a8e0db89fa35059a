use Rattle.std.proofs.Common.{refl}
use Rattle.verse.specs.Syntax.{kids}
use Rattle.verse.specs.Syntax.Sort.{val}
use Rattle.verse_rules.proofs.Lawfuls.{twofold}
use Rattle.verse_rules.proofs.forms.application.Goals as goal

pub returns : goal.returns
unfolding kids
returns c = λ s t h. twofold s t _ _ h val val c.two.result _ refl (c.two.ensures t h.is) c.ok_or.ensures.value
