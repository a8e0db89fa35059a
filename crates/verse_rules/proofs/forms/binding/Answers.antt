use Rattle.std.proofs.Common.{refl}
use Rattle.terms.specs.Rows.{var}
use Rattle.verse_rules.specs.Reads.{Bound}
use Rattle.verse_rules.proofs.Lawfuls.{erred}
use Rattle.verse_rules.proofs.forms.binding.Goals as goal

pub returns-in_err-a : goal.returns-in_err-a
returns-in_err-a c = λ s t h.
    let n = c.in_err-a.ensures s t h in
    erred (Bound t) _ _ c.from_residual.ensures.1 n.0 (refl, λ l. n.1 (var l.x) l.v l.e l.is)
