use Rattle.std.proofs.Common.{sym, subst}
use Rattle.verse.specs.Syntax.{Val}
use Rattle.verse.specs.Syntax.Sort.{exp}
use Rattle.verse_rules.proofs.Lawfuls.{whole_reads}
use Rattle.verse_rules.proofs.Makes.{refused, written}
use Rattle.verse_rules.proofs.Sames.{same_one, flat_single}
use Rattle.verse_rules.proofs.choice.all_value.Goals as goal

pub returns-in_err-v : goal.returns-in_err-v
returns-in_err-v c = λ t inner h e.
    let n = c.in_err-v.ensures exp t (whole_reads h e) in
    refused _ _ _ _ c.from_residual.ensures.1 n.0 (λ l. n.1 l.v l.is)

pub returns-in_err-value : goal.returns-in_err-value
returns-in_err-value c = λ t inner h e.
    let p = c.in_ok-v.ensures exp t (whole_reads h e) in
    let n = c.in_err-value.ensures exp p.0 p.2 in
    refused _ _ _ _ c.from_residual-in_err-value.ensures.1 n.0 (λ l. n.1 (subst Val (sym (same_one p.1 l.is)) l.letters))

pub returns : goal.returns
returns c = λ t inner h e.
    let p = c.in_ok-v.ensures exp t (whole_reads h e) in
    let v = c.in_ok-value.ensures exp p.0 p.2 in
    written _ _ _ _ c.give.ensures (record { v = p.0; letters = v.lawful; is = p.1 }) tt tt (rw (← p.2.is.reads) (flat_single p.2.is))
