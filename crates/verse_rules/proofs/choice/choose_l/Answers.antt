use Rattle.std.proofs.Common.{ap, ◌∙◌, append-nil}
use Rattle.verse.specs.Syntax.{fail, choice}
use Rattle.verse.specs.Syntax.Sort.{exp}
use Rattle.verse.proofs.MoreLawsParts.{one_wide}
use Rattle.verse_rules.proofs.Lawfuls.{whole_reads}
use Rattle.verse_rules.proofs.Makes.{refused, written}
use Rattle.verse_rules.proofs.Sames.{same_two}
use Rattle.verse_rules.proofs.choice.choose_l.Goals as goal

pub returns-in_err-e : goal.returns-in_err-e
returns-in_err-e c = λ t inner h e.
    let n = c.in_err-e.ensures exp t (whole_reads h e) in
    refused _ _ _ _ c.from_residual.ensures.1 n.0 (λ l. n.1 l.e fail l.is)

pub returns-in_err-exactly : goal.returns-in_err-exactly
returns-in_err-exactly c = λ t inner h e.
    let p = c.in_ok-e.ensures exp t (whole_reads h e) in
    let n = c.in_err-exactly.ensures exp p.1 p.4 in
    refused _ _ _ _ c.from_residual-in_err-exactly.ensures.1 n.0 (λ l. n.1 (same_two l.e fail p.2 p.3 l.is (one_wide exp l.e l.letters)).1)

pub returns : goal.returns
returns c = λ t inner h e.
    let p = c.in_ok-e.ensures exp t (whole_reads h e) in
    let f = c.in_ok-exactly.ensures exp p.1 p.4 in
    written _ _ _ _ c.give.ensures (record { e = p.0; letters = p.3.lawful; is = p.2 ∙ ap (choice p.0) f }) tt tt (rw (← p.3.is.reads) (append-nil _))
