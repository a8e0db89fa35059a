use Rattle.std.proofs.Common.{sym, refl, ap, ◌∙◌, append_assoc, append-nil, arith}
use Rattle.terms.specs.Rows.{var}
use Rattle.terms.proofs.Inject.{top}
use Rattle.verse.specs.Syntax.Sort.{val, exp}
use Rattle.verse_rules.proofs.Lawfuls.{whole_reads}
use Rattle.verse_rules.proofs.Makes.{refused, written}
use Rattle.verse_rules.proofs.Sames.{same_three, two_leaves}
use Rattle.verse_rules.proofs.unification.var_swap.Goals as goal

pub returns-in_err-a : goal.returns-in_err-a
returns-in_err-a c = λ t inner h e.
    let n = c.in_err-a.ensures exp t (whole_reads h e) in
    refused _ _ _ _ c.from_residual.ensures.1 n.0 (λ l. n.1 (var l.y) (var l.x) l.e l.is)

pub returns-in_err-y : goal.returns-in_err-y
returns-in_err-y c = λ t inner h e.
    let p = c.in_ok-a.ensures exp t (whole_reads h e) in
    let n = c.in_err-y.ensures val p.0 p.4 in
    refused _ _ _ _ c.from_residual-in_err-y.ensures.1 n.0 (λ l. n.1 l.y l.letters.0 (same_three (var l.y) (var l.x) l.e p.3 p.4 l.is refl).0)

pub returns-in_err-x : goal.returns-in_err-x
returns-in_err-x c = λ t inner h e.
    let p = c.in_ok-a.ensures exp t (whole_reads h e) in
    let n = c.in_err-x.ensures exp p.1 p.5 in
    refused _ _ _ _ c.from_residual-in_err-x.ensures.1 n.0 (λ l. n.1 l.x l.letters.1 (same_three (var l.y) (var l.x) l.e p.3 p.4 l.is refl).1)

pub returns-then-x-y : goal.returns-then-x-y
returns-then-x-y c = λ t inner h e.
    let p = c.in_ok-a.ensures exp t (whole_reads h e) in
    let y = c.in_ok-y.ensures val p.0 p.4 in
    let x = c.in_ok-x.ensures exp p.1 p.5 in (
      refl,
      (
        record { y = c.in_ok-y.y; x = c.in_ok-x.x; e = p.2; letters = (y.0, x.0, p.6.lawful); is = p.3 ∙ two_leaves p.2 y.1 x.1 },
        λ l k.
            let s = same_three (var l.y) (var l.x) l.e p.3 p.4 l.is refl in
            let i = ap top (sym y.1 ∙ s.0) in
            let j = ap top (sym x.1 ∙ s.1) in
            omega (arith, c.if-x-y.true, i, j, k),
      ),
    )

pub returns : goal.returns
returns c = λ t inner h e.
    let p = c.in_ok-a.ensures exp t (whole_reads h e) in
    let y = c.in_ok-y.ensures val p.0 p.4 in
    let x = c.in_ok-x.ensures exp p.1 p.5 in
    let k = c.if-x-y.false in
    written _ _ _ _ c.give.ensures (record { y = c.in_ok-y.y; x = c.in_ok-x.x; e = p.2; letters = (y.0, x.0, p.6.lawful); is = p.3 ∙ two_leaves p.2 y.1 x.1 }) (omega arith) tt (rw (← p.5.is.reads, ← p.4.is.reads, ← p.6.is.reads, x.1, y.1) (simp (append-nil, append_assoc)))
