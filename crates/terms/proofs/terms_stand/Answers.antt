use Rattle.terms.proofs.Whole.{term_facts}
use Rattle.terms.proofs.terms_stand.Goals as goal

pub returns : goal.returns
returns c = term_facts
