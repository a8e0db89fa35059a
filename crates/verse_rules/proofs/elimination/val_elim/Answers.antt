use Rattle.std.proofs.Common.{sym, subst, append-nil}
use Rattle.verse.specs.Syntax.{Val}
use Rattle.verse.specs.Syntax.Sort.{val, exp, equ}
use Rattle.verse.proofs.MoreLawsParts.{one_wide}
use Rattle.verse_rules.proofs.Lawfuls.{whole_reads}
use Rattle.verse_rules.proofs.Makes.{refused, written}
use Rattle.verse_rules.proofs.Sames.{same_two}
use Rattle.verse_rules.proofs.elimination.val_elim.Goals as goal

pub returns-in_err-v : goal.returns-in_err-v
returns-in_err-v c = λ t inner h e.
    let n = c.in_err-v.ensures exp t (whole_reads h e) in
    refused _ _ _ _ c.from_residual.ensures.1 n.0 (λ l. n.1 l.v l.e l.is)

pub returns-in_err-value : goal.returns-in_err-value
returns-in_err-value c = λ t inner h e.
    let p = c.in_ok-v.ensures exp t (whole_reads h e) in
    let n = c.in_err-value.ensures equ p.0 p.3 in
    refused _ _ _ _ c.from_residual-in_err-value.ensures.1 n.0 (λ l. n.1 (subst Val (sym (same_two l.v l.e p.2 p.3 l.is (one_wide val l.v l.letters.0)).0) l.letters.0))

pub returns : goal.returns
returns c = λ t inner h e.
    let p = c.in_ok-v.ensures exp t (whole_reads h e) in
    let v = c.in_ok-value.ensures equ p.0 p.3 in
    written _ _ _ _ c.give.ensures (record { v = p.0; e = p.1; letters = (v.lawful, p.4.lawful); is = p.2 }) tt tt (rw (← p.4.is.reads) (append-nil _))
