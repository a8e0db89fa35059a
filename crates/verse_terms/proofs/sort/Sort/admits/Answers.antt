use Rattle.std.proofs.Common.{◌≡◌, sym, refl, ap, ◌∙◌}
use Rattle.std.specs.Ordering.{partial_le}
use Rattle.verse_terms.specs.contracts.sort.SortPartialOrd.TheImpl.{partial_cmp-value}
use Rattle.verse_terms.specs.declared.sort.Sort.{Sort}
use Rattle.verse_terms.specs.declared.sort.Sort.TheVariants.{Value, Expression, FirstPart}
use Rattle.verse_terms.proofs.Admitting.{below, admits_kind, admits_none}
use Rattle.verse_terms.proofs.sort.Sort.admits.Goals as goal

ordered : (a b : Sort) → partial_le partial_cmp-value.it a b ≡ below a b
ordered Value Value = refl
ordered Value Expression = refl
ordered Value FirstPart = refl
ordered Expression Value = refl
ordered Expression Expression = refl
ordered Expression FirstPart = refl
ordered FirstPart Value = refl
ordered FirstPart Expression = refl
ordered FirstPart FirstPart = refl

pub returns-in-Some : goal.returns-in-Some
returns-in-Some c =
    c.le.ensures ∙ ordered c.from.result c.args.self ∙ ap (λ z. below z c.args.self) c.from.ensures ∙ sym (admits_kind c.args.self c.in-Some.kind c.args.c c.in-Some.ensures)

pub returns-in-None : goal.returns-in-None
returns-in-None c = sym (admits_none c.args.self c.args.c c.in-None.ensures)
