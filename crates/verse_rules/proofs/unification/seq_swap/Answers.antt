use Rattle.std.proofs.Common.{sym, refl, ap, ◌∙◌, arith}
use mathlib.Core.Bool.{false≢true}
use Rattle.terms.specs.Rows.{var}
use Rattle.verse.specs.Syntax.{seq, eqn}
use Rattle.verse.specs.Syntax.Sort.{exp, equ}
use Rattle.verse.specs.Lines.{Binds, Late}
use Rattle.verse.proofs.Unique.{same_binds}
use Rattle.verse.proofs.MoreLawsParts.{one_wide}
use Rattle.verse_rules.proofs.Lawfuls.{whole_reads}
use Rattle.verse_rules.proofs.Makes.{refused, written}
use Rattle.verse_rules.proofs.Lates.{flat_late}
use Rattle.verse_rules.proofs.Sames.{same_two}
use Rattle.verse_rules.proofs.unification.seq_swap.Goals as goal

pub returns-in_err-q : goal.returns-in_err-q
returns-in_err-q c = λ t inner h e.
    let n = c.in_err-q.ensures exp t (whole_reads h e) in
    refused _ _ _ _ c.from_residual.ensures.1 n.0 (λ l. n.1 l.q (seq (eqn (var l.x) l.v) l.e) l.is)

pub returns-in_err-x : goal.returns-in_err-x
returns-in_err-x c = λ t inner h e.
    let p = c.in_ok-q.ensures exp t (whole_reads h e) in
    let n = c.in_err-x.ensures exp p.1 p.4 in
    refused _ _ _ _ c.from_residual-in_err-x.ensures.1 n.0 (λ l. let s = same_two l.q (seq (eqn (var l.x) l.v) l.e) p.2 p.3 l.is (one_wide equ l.q l.letters.0) in n.1 (record { x = l.x; v = l.v; e = l.e; letters = (l.letters.1, l.letters.2, l.letters.3); is = s.1 }))

pub returns-then-early : goal.returns-then-early
returns-then-early c = λ t inner h e.
    let p = c.in_ok-q.ensures exp t (whole_reads h e) in
    let b = c.in_ok-x.ensures exp p.1 p.4 in
    let y = (c.if-early.ensures p.0 p.3).0 refl in
    let m : Late t = record { q = p.0; x = c.in_ok-x.x; v = b.0; e = b.1; letters = (p.3.lawful, b.2, b.4.lawful, b.5.lawful); is = p.2 ∙ ap (seq p.0) b.3 } in (
      refl,
      (
        m,
        λ l k.
            let s = same_two l.q (seq (eqn (var l.x) l.v) l.e) p.2 p.3 l.is (one_wide equ l.q l.letters.0) in
            let f : Binds p.1 = record { x = l.x; v = l.v; e = l.e; letters = (l.letters.1, l.letters.2, l.letters.3); is = s.1 } in
            let g : Binds p.1 = record { x = c.in_ok-x.x; v = b.0; e = b.1; letters = (b.2, b.4.lawful, b.5.lawful); is = b.3 } in
            let i = (same_binds p.1 p.1 refl g f).0 in
            k y.0 y.1 y.2 y.3 (sym s.0 ∙ y.4) (omega (arith, y.5, i)),
      ),
    )

pub returns : goal.returns
returns c = λ t inner h e.
    let p = c.in_ok-q.ensures exp t (whole_reads h e) in
    let b = c.in_ok-x.ensures exp p.1 p.4 in
    let m : Late t = record { q = p.0; x = c.in_ok-x.x; v = b.0; e = b.1; letters = (p.3.lawful, b.2, b.4.lawful, b.5.lawful); is = p.2 ∙ ap (seq p.0) b.3 } in
    written _ _ _ _ c.give.ensures m (λ y v w x i k. false≢true ((c.if-early.ensures p.0 p.3).1 (y, v, w, x, i, k))) tt (rw (c.variable_cell.ensures, ← b.4.is.reads, ← p.3.is.reads, ← b.5.is.reads) (flat_late c.in_ok-x.x b.0 p.0 b.1))
