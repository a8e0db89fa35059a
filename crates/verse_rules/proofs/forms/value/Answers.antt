use Rattle.std.proofs.Common.{refl, arith}
use Rattle.verse_rules.proofs.Lawfuls.{is_value, no_value}
use Rattle.verse_rules.proofs.forms.value.Goals as goal

pub returns-in-Some : goal.returns-in-Some
returns-in-Some c = λ s t h. is_value t c.in-Some.c (c.in-Some.ensures.reads t h.is) s _ h (omega arith)

pub returns-in_default : goal.returns-in_default
returns-in_default c = λ s t h. (refl, no_value t c.in-Some.c (c.in-Some.ensures.reads t h.is) (omega arith))
