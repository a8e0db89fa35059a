use Rattle.std.proofs.Common.{refl}
use Rattle.verse.specs.Syntax.{kids}
use Rattle.verse.specs.Syntax.Sort.{exp, equ}
use Rattle.verse_rules.proofs.Lawfuls.{twofold}
use Rattle.verse_rules.proofs.forms.sequence.Goals as goal

pub returns : goal.returns
unfolding kids
returns c = λ s t h. twofold s t _ _ h equ exp c.two.result _ refl (c.two.ensures t h.is) c.ok_or.ensures.value
