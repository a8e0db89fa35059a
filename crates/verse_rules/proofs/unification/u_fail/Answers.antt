use Rattle.std.proofs.Common.{sym, refl, subst}
use mathlib.Core.Bool.{false≢true}
use Rattle.verse.specs.Syntax.{Hnf}
use Rattle.verse.specs.Syntax.Sort.{val, hnf, exp}
use Rattle.verse.proofs.MoreLawsParts.{one_wide}
use Rattle.verse_rules.proofs.Fails.{heads, apart_words, words_apart}
use Rattle.verse_rules.proofs.Lawfuls.{whole_reads}
use Rattle.verse_rules.proofs.Makes.{refused, written}
use Rattle.verse_rules.proofs.Sames.{same_three}
use Rattle.verse_rules.proofs.unification.u_fail.Goals as goal

pub returns-in_err-a : goal.returns-in_err-a
returns-in_err-a c = λ t inner h e.
    let n = c.in_err-a.ensures exp t (whole_reads h e) in
    refused _ _ _ _ c.from_residual.ensures.1 n.0 (λ l. n.1 l.h₁ l.h₂ l.e l.is)

pub returns-in_err-c : goal.returns-in_err-c
returns-in_err-c c = λ t inner h e.
    let p = c.in_ok-a.ensures exp t (whole_reads h e) in
    let n = c.in_err-c.ensures val p.0 p.4 in
    refused _ _ _ _ c.from_residual-in_err-c.ensures.1 n.0 (λ l. n.1 (subst Hnf (sym (same_three l.h₁ l.h₂ l.e p.3 p.4 l.is (one_wide hnf l.h₁ l.letters.0)).0) l.letters.0))

pub returns-in_err-d : goal.returns-in_err-d
returns-in_err-d c = λ t inner h e.
    let p = c.in_ok-a.ensures exp t (whole_reads h e) in
    let n = c.in_err-d.ensures exp p.1 p.5 in
    refused _ _ _ _ c.from_residual-in_err-d.ensures.1 n.0 (λ l. n.1 (subst Hnf (sym (same_three l.h₁ l.h₂ l.e p.3 p.4 l.is (one_wide hnf l.h₁ l.letters.0)).1) l.letters.1))

pub returns-then-not-never_equal : goal.returns-then-not-never_equal
returns-then-not-never_equal c = λ t inner h e.
    let p = c.in_ok-a.ensures exp t (whole_reads h e) in
    let x = c.in_ok-c.ensures val p.0 p.4 in
    let y = c.in_ok-d.ensures exp p.1 p.5 in (
      refl,
      (
        heads inner t _ _ _ _ _ _ _ _ _ _ p.3 x.2 y.2 p.6 x.1 y.1,
        λ l k. false≢true (c.if-not-never_equal.ensures.1 (words_apart inner t _ _ _ _ _ _ _ _ _ _ p.3 x.2 y.2 p.6 x.1 y.1 l k)),
      ),
    )

pub returns : goal.returns
returns c = λ t inner h e.
    let p = c.in_ok-a.ensures exp t (whole_reads h e) in
    let x = c.in_ok-c.ensures val p.0 p.4 in
    let y = c.in_ok-d.ensures exp p.1 p.5 in
    let l = heads inner t _ _ _ _ _ _ _ _ _ _ p.3 x.2 y.2 p.6 x.1 y.1 in
    let w = apart_words inner t _ _ _ _ _ _ _ _ _ _ p.3 x.2 y.2 p.6 x.1 y.1 (c.if-not-never_equal.ensures.0 refl) in
    written _ _ _ _ c.give.ensures l w tt refl
