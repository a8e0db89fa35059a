use Rattle.std.proofs.Common.{refl, ap, ◌∙◌, append_assoc, append-nil}
use Rattle.terms.proofs.Trees.{flat-&}
use Rattle.verse.specs.Syntax.{seq}
use Rattle.verse.specs.Syntax.Sort.{exp, equ}
use Rattle.verse_rules.proofs.Lawfuls.{whole_reads}
use Rattle.verse_rules.proofs.Makes.{refused, written}
use Rattle.verse_rules.proofs.Sames.{same_two}
use Rattle.verse_rules.proofs.normalization.seq_assoc.Goals as goal

pub returns-in_err-first : goal.returns-in_err-first
returns-in_err-first c = λ t inner h e.
    let n = c.in_err-first.ensures exp t (whole_reads h e) in
    refused _ _ _ _ c.from_residual.ensures.1 n.0 (λ l. n.1 (seq l.q l.e₁) l.e₂ l.is)

pub returns-in_err-q : goal.returns-in_err-q
returns-in_err-q c = λ t inner h e.
    let p = c.in_ok-first.ensures exp t (whole_reads h e) in
    let n = c.in_err-q.ensures equ p.0 p.3 in
    refused _ _ _ _ c.from_residual-in_err-q.ensures.1 n.0 (λ l. n.1 l.q l.e₁ (same_two (seq l.q l.e₁) l.e₂ p.2 p.3 l.is refl).0)

pub returns : goal.returns
returns c = λ t inner h e.
    let p = c.in_ok-first.ensures exp t (whole_reads h e) in
    let q = c.in_ok-q.ensures equ p.0 p.3 in
    written _ _ _ _ c.give.ensures (record { q = q.0; e₁ = q.1; e₂ = p.1; letters = (q.3.lawful, q.4.lawful, p.4.lawful); is = p.2 ∙ ap (λ x. seq x p.1) q.2 }) tt tt (rw (← q.3.is.reads, ← q.4.is.reads, ← p.4.is.reads) (simp (flat-&, append-nil, append_assoc)))
