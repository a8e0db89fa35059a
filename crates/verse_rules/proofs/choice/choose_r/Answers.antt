use Rattle.std.proofs.Common.{refl, ap, ◌∙◌, append-nil}
use Rattle.verse.specs.Syntax.{fail, choice}
use Rattle.verse.specs.Syntax.Sort.{exp}
use Rattle.verse_rules.proofs.Lawfuls.{whole_reads}
use Rattle.verse_rules.proofs.Makes.{refused, written}
use Rattle.verse_rules.proofs.Sames.{same_two}
use Rattle.verse_rules.proofs.choice.choose_r.Goals as goal

pub returns-in_err-f : goal.returns-in_err-f
returns-in_err-f c = λ t inner h e.
    let n = c.in_err-f.ensures exp t (whole_reads h e) in
    refused _ _ _ _ c.from_residual.ensures.1 n.0 (λ l. n.1 fail l.e l.is)

pub returns-in_err-exactly : goal.returns-in_err-exactly
returns-in_err-exactly c = λ t inner h e.
    let p = c.in_ok-f.ensures exp t (whole_reads h e) in
    let n = c.in_err-exactly.ensures exp p.0 p.3 in
    refused _ _ _ _ c.from_residual-in_err-exactly.ensures.1 n.0 (λ l. n.1 (same_two fail l.e p.2 p.3 l.is refl).0)

pub returns : goal.returns
returns c = λ t inner h e.
    let p = c.in_ok-f.ensures exp t (whole_reads h e) in
    let f = c.in_ok-exactly.ensures exp p.0 p.3 in
    written _ _ _ _ c.give.ensures (record { e = p.1; letters = p.4.lawful; is = p.2 ∙ ap (λ x. choice x p.1) f }) tt tt (rw (← p.4.is.reads) (append-nil _))
