use Rattle.std.proofs.Common.{Some, Ok, Decides, sym, refl, ◌∙◌, subst, arith}
use Rattle.std.proofs.lemmas.Bool.{false≢true}
use Rattle.terms.specs.Rows.{var}
use Rattle.verse.specs.Syntax.Sort.{val, exp}
use Rattle.verse_rules.specs.Tests.{Early}
use Rattle.verse_rules.proofs.Earlies.{early_if, not_late, no_variable}
use Rattle.verse_rules.proofs.Lawfuls.{equated}
use Rattle.verse_rules.proofs.lying.early.Goals as goal
use Rattle.verse_rules.proofs.lying.early.Goals.{in-Ok, in_default-2, in_default}

pub returns-then-matches : goal.returns-then-matches
returns-then-matches c = λ q h.
    let w = equated q _ (Some (c.in-Some.a, c.in-Some.b)) (Ok (c.in-Some.a, c.in-Some.b)) h (c.in-Some.ensures q h.is) refl in
    subst (λ r. Decides r (Early c.args.x q)) (sym c.is_ok.ensures.value) (elim c.match-matches.branch [
      | in-Ok z ↦ early_if q w.0 w.1 c.args.x _ _ w.2 w.3 z.in-Ok.y (z.in-Ok.ensures val w.0 w.3) (omega arith) c.value.result (c.value.ensures exp w.1 w.4)
      | in_default-2 z ↦ absurd (false≢true (sym z.matches-is ∙ c.if-matches.true))
      | in_default z ↦ absurd (false≢true (sym z.matches-is ∙ c.if-matches.true))
    ])

pub returns-else-matches : goal.returns-else-matches
returns-else-matches c = λ q h.
    let w = equated q _ (Some (c.in-Some.a, c.in-Some.b)) (Ok (c.in-Some.a, c.in-Some.b)) h (c.in-Some.ensures q h.is) refl in (
      λ k. absurd (false≢true (sym c.if-matches.false ∙ k)),
      λ r. absurd (elim c.match-matches.branch [
        | in-Ok z ↦ false≢true (sym c.if-matches.false ∙ z.matches-is)
        | in_default-2 z ↦ not_late q w.0 w.1 c.args.x _ c.in-Some.b.now w.2 w.3 z.in-Ok.y (z.in-Ok.ensures val w.0 w.3) (λ l. omega arith) r
        | in_default z ↦ no_variable q w.0 w.1 c.args.x _ c.in-Some.b.now w.2 w.3 _ (z.in_default.ensures val w.0 w.3) r
      ]),
    )

pub returns-in-None : goal.returns-in-None
returns-in-None c = λ q h. (λ k. absurd (false≢true k), λ r. absurd (c.in-None.ensures q h.is (var r.0) r.1 r.4))
