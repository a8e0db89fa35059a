use Rattle.std.proofs.Common.{ap, ◌∙◌, append_assoc, append-nil}
use Rattle.terms.proofs.Trees.{flat-&}
use Rattle.verse.specs.Syntax.{seq, eqn}
use Rattle.verse.specs.Syntax.Sort.{val, exp}
use Rattle.verse.proofs.MoreLawsParts.{one_wide}
use Rattle.verse_rules.proofs.Lawfuls.{whole_reads}
use Rattle.verse_rules.proofs.Makes.{refused, written}
use Rattle.verse_rules.proofs.Sames.{same_three}
use Rattle.verse_rules.proofs.normalization.eqn_float.Goals as goal

pub returns-in_err-v : goal.returns-in_err-v
returns-in_err-v c = λ t inner h e.
    let n = c.in_err-v.ensures exp t (whole_reads h e) in
    refused _ _ _ _ c.from_residual.ensures.1 n.0 (λ l. n.1 l.v (seq l.q l.e₁) l.e₂ l.is)

pub returns-in_err-q : goal.returns-in_err-q
returns-in_err-q c = λ t inner h e.
    let p = c.in_ok-v.ensures exp t (whole_reads h e) in
    let n = c.in_err-q.ensures exp p.1 p.5 in
    refused _ _ _ _ c.from_residual-in_err-q.ensures.1 n.0 (λ l. n.1 l.q l.e₁ (same_three l.v (seq l.q l.e₁) l.e₂ p.3 p.4 l.is (one_wide val l.v l.letters.0)).1)

pub returns : goal.returns
returns c = λ t inner h e.
    let p = c.in_ok-v.ensures exp t (whole_reads h e) in
    let q = c.in_ok-q.ensures exp p.1 p.5 in
    written _ _ _ _ c.give.ensures (record { v = p.0; q = q.0; e₁ = q.1; e₂ = p.2; letters = (p.4.lawful, q.3.lawful, q.4.lawful, p.6.lawful); is = p.3 ∙ ap (λ x. seq (eqn p.0 x) p.2) q.2 }) tt tt (rw (← q.3.is.reads, ← p.4.is.reads, ← q.4.is.reads, ← p.6.is.reads) (simp (flat-&, append-nil, append_assoc)))
