use Rattle.std.proofs.Common.{sym, refl, ap, ◌∙◌, append-nil, arith}
use Rattle.terms.proofs.Inject.{top}
use Rattle.verse.specs.Syntax.{int}
use Rattle.verse.specs.Syntax.Sort.{val, exp}
use Rattle.verse_rules.proofs.Lawfuls.{whole_reads}
use Rattle.verse_rules.proofs.Makes.{refused, written}
use Rattle.verse_rules.proofs.Sames.{same_three, two_leaves}
use Rattle.verse_rules.proofs.unification.u_lit.Goals as goal

pub returns-in_err-a : goal.returns-in_err-a
returns-in_err-a c = λ t inner h e.
    let n = c.in_err-a.ensures exp t (whole_reads h e) in
    refused _ _ _ _ c.from_residual.ensures.1 n.0 (λ l. n.1 (int l.k₁) (int l.k₂) l.e l.is)

pub returns-in_err-m : goal.returns-in_err-m
returns-in_err-m c = λ t inner h e.
    let p = c.in_ok-a.ensures exp t (whole_reads h e) in
    let n = c.in_err-m.ensures val p.0 p.4 in
    refused _ _ _ _ c.from_residual-in_err-m.ensures.1 n.0 (λ l. n.1 l.k₁ l.letters.0 (same_three (int l.k₁) (int l.k₂) l.e p.3 p.4 l.is refl).0)

pub returns-in_err-n : goal.returns-in_err-n
returns-in_err-n c = λ t inner h e.
    let p = c.in_ok-a.ensures exp t (whole_reads h e) in
    let n = c.in_err-n.ensures exp p.1 p.5 in
    refused _ _ _ _ c.from_residual-in_err-n.ensures.1 n.0 (λ l. n.1 l.k₂ l.letters.1 (same_three (int l.k₁) (int l.k₂) l.e p.3 p.4 l.is refl).1)

pub returns-then-m-n : goal.returns-then-m-n
returns-then-m-n c = λ t inner h e.
    let p = c.in_ok-a.ensures exp t (whole_reads h e) in
    let m = c.in_ok-m.ensures val p.0 p.4 in
    let n = c.in_ok-n.ensures exp p.1 p.5 in (
      refl,
      (
        record { k₁ = c.in_ok-m.m; k₂ = c.in_ok-n.n; e = p.2; letters = (m.0, n.0, p.6.lawful); is = p.3 ∙ two_leaves p.2 m.1 n.1 },
        λ l k.
            let s = same_three (int l.k₁) (int l.k₂) l.e p.3 p.4 l.is refl in
            let x = ap top (sym m.1 ∙ s.0) in
            let y = ap top (sym n.1 ∙ s.1) in
            omega (arith, c.if-m-n.true, x, y, k),
      ),
    )

pub returns : goal.returns
returns c = λ t inner h e.
    let p = c.in_ok-a.ensures exp t (whole_reads h e) in
    let m = c.in_ok-m.ensures val p.0 p.4 in
    let n = c.in_ok-n.ensures exp p.1 p.5 in
    let k = c.if-m-n.false in
    written _ _ _ _ c.give.ensures (record { k₁ = c.in_ok-m.m; k₂ = c.in_ok-n.n; e = p.2; letters = (m.0, n.0, p.6.lawful); is = p.3 ∙ two_leaves p.2 m.1 n.1 }) (omega arith) tt (rw (← p.6.is.reads) (append-nil _))
