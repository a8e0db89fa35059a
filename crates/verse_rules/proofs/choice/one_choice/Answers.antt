use Rattle.std.proofs.Common.{sym, ap, ◌∙◌, subst, append-nil}
use Rattle.verse.specs.Syntax.{Val, one, choice}
use Rattle.verse.specs.Syntax.Sort.{val, exp}
use Rattle.verse.proofs.MoreLawsParts.{one_wide}
use Rattle.verse_rules.proofs.Lawfuls.{whole_reads}
use Rattle.verse_rules.proofs.Makes.{refused, written}
use Rattle.verse_rules.proofs.Sames.{same_one, same_two}
use Rattle.verse_rules.proofs.choice.one_choice.Goals as goal

pub returns-in_err-either : goal.returns-in_err-either
returns-in_err-either c = λ t inner h e.
    let n = c.in_err-either.ensures exp t (whole_reads h e) in
    refused _ _ _ _ c.from_residual.ensures.1 n.0 (λ l. n.1 (choice l.v l.e) l.is)

pub returns-in_err-v : goal.returns-in_err-v
returns-in_err-v c = λ t inner h e.
    let p = c.in_ok-either.ensures exp t (whole_reads h e) in
    let n = c.in_err-v.ensures exp p.0 p.2 in
    refused _ _ _ _ c.from_residual-in_err-v.ensures.1 n.0 (λ l. n.1 l.v l.e (same_one p.1 l.is))

pub returns-in_err-value : goal.returns-in_err-value
returns-in_err-value c = λ t inner h e.
    let p = c.in_ok-either.ensures exp t (whole_reads h e) in
    let q = c.in_ok-v.ensures exp p.0 p.2 in
    let n = c.in_err-value.ensures exp q.0 q.3 in
    refused _ _ _ _ c.from_residual-in_err-value.ensures.1 n.0 (λ l. n.1 (subst Val (sym (same_two l.v l.e q.2 q.3 (same_one p.1 l.is) (one_wide val l.v l.letters.0)).0) l.letters.0))

pub returns : goal.returns
returns c = λ t inner h e.
    let p = c.in_ok-either.ensures exp t (whole_reads h e) in
    let q = c.in_ok-v.ensures exp p.0 p.2 in
    let v = c.in_ok-value.ensures exp q.0 q.3 in
    written _ _ _ _ c.give.ensures (record { v = q.0; e = q.1; letters = (v.lawful, q.4.lawful); is = p.1 ∙ ap one q.2 }) tt tt (rw (← q.3.is.reads) (append-nil _))
