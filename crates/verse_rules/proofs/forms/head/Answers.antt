use Rattle.std.proofs.Common.{sym, refl, ◌∙◌}
use Rattle.verse.proofs.MoreLawsParts.{head_value}
use Rattle.verse_rules.specs.Reads.{Headed}
use Rattle.verse_rules.proofs.Lawfuls.{erred, no_head, value_head}
use Rattle.verse_rules.proofs.forms.head.Goals as goal

pub returns-in_err-value : goal.returns-in_err-value
returns-in_err-value c = λ s t h.
    let n = c.in_err-value.ensures s t h in
    erred (Headed c.args.part.now t) _ _ c.from_residual.ensures.1 n.0 (refl, λ g. n.1 (head_value t g))

pub returns-in-Some : goal.returns-in-Some
returns-in-Some c = λ s t h.
    value_head t c.in-Some.c (c.in-Some.ensures.reads t h.is) _ (λ e. c.if-kind.true (c.kind.ensures ∙ e)) (c.in_ok-value.ensures s t h)

pub returns-in_default : goal.returns-in_default
returns-in_default c = λ s t h. (refl, no_head t c.in-Some.c (c.in-Some.ensures.reads t h.is) (sym c.kind.ensures ∙ c.if-kind.false))
