use Rattle.verse_rules.proofs.Lawfuls.{as_integer}
use Rattle.verse_rules.proofs.forms.integer.Goals as goal

pub returns : goal.returns
returns c = λ s t h. as_integer s t _ h c.leaf.result (c.leaf.ensures s t h)
