use Rattle.std.proofs.Common.{refl, ap, ◌∙◌}
use Rattle.verse.specs.Syntax.{one, fail}
use Rattle.verse.specs.Syntax.Sort.{exp}
use Rattle.verse_rules.proofs.Lawfuls.{whole_reads}
use Rattle.verse_rules.proofs.Makes.{refused, written}
use Rattle.verse_rules.proofs.Sames.{same_one}
use Rattle.verse_rules.proofs.choice.one_fail.Goals as goal

pub returns-in_err-e : goal.returns-in_err-e
returns-in_err-e c = λ t inner h e.
    let n = c.in_err-e.ensures exp t (whole_reads h e) in
    refused _ _ _ _ c.from_residual.ensures.1 n.0 (λ l. n.1 fail l)

pub returns-in_err-exactly : goal.returns-in_err-exactly
returns-in_err-exactly c = λ t inner h e.
    let p = c.in_ok-e.ensures exp t (whole_reads h e) in
    let n = c.in_err-exactly.ensures exp p.0 p.2 in
    refused _ _ _ _ c.from_residual-in_err-exactly.ensures.1 n.0 (λ l. n.1 (same_one p.1 l))

pub returns : goal.returns
returns c = λ t inner h e.
    let p = c.in_ok-e.ensures exp t (whole_reads h e) in
    let f = c.in_ok-exactly.ensures exp p.0 p.2 in
    written _ _ _ _ c.give.ensures (p.1 ∙ ap one f) tt tt refl
