use Rattle.verse_rules.proofs.Lawfuls.{as_variable}
use Rattle.verse_rules.proofs.forms.variable.Goals as goal

pub returns : goal.returns
returns c = λ s t h. as_variable s t _ h c.leaf.result (c.leaf.ensures s t h)
