use Rattle.std.proofs.Common.{refl, ap, ◌∙◌, append_assoc, append-nil}
use Rattle.terms.proofs.Trees.{flat-&}
use Rattle.verse.specs.Syntax.{choice}
use Rattle.verse.specs.Syntax.Sort.{exp}
use Rattle.verse_rules.proofs.Lawfuls.{whole_reads}
use Rattle.verse_rules.proofs.Makes.{refused, written}
use Rattle.verse_rules.proofs.Sames.{same_two}
use Rattle.verse_rules.proofs.choice.choose_assoc.Goals as goal

pub returns-in_err-left : goal.returns-in_err-left
returns-in_err-left c = λ t inner h e.
    let n = c.in_err-left.ensures exp t (whole_reads h e) in
    refused _ _ _ _ c.from_residual.ensures.1 n.0 (λ l. n.1 (choice l.e₁ l.e₂) l.e₃ l.is)

pub returns-in_err-e1 : goal.returns-in_err-e1
returns-in_err-e1 c = λ t inner h e.
    let p = c.in_ok-left.ensures exp t (whole_reads h e) in
    let n = c.in_err-e1.ensures exp p.0 p.3 in
    refused _ _ _ _ c.from_residual-in_err-e1.ensures.1 n.0 (λ l. n.1 l.e₁ l.e₂ (same_two (choice l.e₁ l.e₂) l.e₃ p.2 p.3 l.is refl).0)

pub returns : goal.returns
returns c = λ t inner h e.
    let p = c.in_ok-left.ensures exp t (whole_reads h e) in
    let q = c.in_ok-e1.ensures exp p.0 p.3 in
    written _ _ _ _ c.give.ensures (record { e₁ = q.0; e₂ = q.1; e₃ = p.1; letters = (q.3.lawful, q.4.lawful, p.4.lawful); is = p.2 ∙ ap (λ x. choice x p.1) q.2 }) tt tt (rw (← q.3.is.reads, ← q.4.is.reads, ← p.4.is.reads) (simp (flat-&, append-nil, append_assoc)))
