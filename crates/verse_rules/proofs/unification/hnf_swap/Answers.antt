use Rattle.std.proofs.Common.{sym, subst, append_assoc, append-nil}
use Rattle.terms.proofs.Trees.{flat-&}
use Rattle.verse.specs.Syntax.{Val, Hnf}
use Rattle.verse.specs.Syntax.Sort.{val, hnf, exp}
use Rattle.verse.proofs.MoreLawsParts.{one_wide}
use Rattle.verse_rules.proofs.Lawfuls.{whole_reads}
use Rattle.verse_rules.proofs.Makes.{refused, written}
use Rattle.verse_rules.proofs.Sames.{same_three}
use Rattle.verse_rules.proofs.unification.hnf_swap.Goals as goal

pub returns-in_err-h : goal.returns-in_err-h
returns-in_err-h c = λ t inner h e.
    let n = c.in_err-h.ensures exp t (whole_reads h e) in
    refused _ _ _ _ c.from_residual.ensures.1 n.0 (λ l. n.1 l.h l.v l.e l.is)

pub returns-in_err-head : goal.returns-in_err-head
returns-in_err-head c = λ t inner h e.
    let p = c.in_ok-h.ensures exp t (whole_reads h e) in
    let n = c.in_err-head.ensures val p.0 p.4 in
    refused _ _ _ _ c.from_residual-in_err-head.ensures.1 n.0 (λ l. n.1 (subst Hnf (sym (same_three l.h l.v l.e p.3 p.4 l.is (one_wide hnf l.h l.letters.0)).0) l.letters.0))

pub returns-in_err-value : goal.returns-in_err-value
returns-in_err-value c = λ t inner h e.
    let p = c.in_ok-h.ensures exp t (whole_reads h e) in
    let n = c.in_err-value.ensures exp p.1 p.5 in
    refused _ _ _ _ c.from_residual-in_err-value.ensures.1 n.0 (λ l. n.1 (subst Val (sym (same_three l.h l.v l.e p.3 p.4 l.is (one_wide hnf l.h l.letters.0)).1) l.letters.1))

pub returns : goal.returns
returns c = λ t inner h e.
    let p = c.in_ok-h.ensures exp t (whole_reads h e) in
    let a = c.in_ok-head.ensures val p.0 p.4 in
    let b = c.in_ok-value.ensures exp p.1 p.5 in
    written _ _ _ _ c.give.ensures (record { h = p.0; v = p.1; e = p.2; letters = (a.2.lawful, b.lawful, p.6.lawful); is = p.3 }) tt tt (rw (← p.5.is.reads, ← p.4.is.reads, ← p.6.is.reads) (simp (flat-&, append-nil, append_assoc)))
