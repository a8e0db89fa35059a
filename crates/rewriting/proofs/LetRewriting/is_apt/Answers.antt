use Rattle.std.proofs.Common.{◌≡◌, ◌≤◌, sym, refl, ap, ◌∙◌, arith}
use Rattle.std.proofs.lemmas.Bool.Decides.{nat_tests}
use Rattle.rewriting.specs.Rules.{number}
use Rattle.rewriting.proofs.Askings.{rule_there, there_rule, no_argument, no_entries}
use Rattle.rewriting.proofs.LetRewriting.is_apt.Goals as goal

pub returns-in-Fapp : goal.returns-in-Fapp
returns-in-Fapp c =
    let n : number c.args.rule ≡ 1 = ap number c.in-Fapp.is in (
      λ e. (no_entries _ c.if-not-is_empty.ensures, (λ k. rule_there _ _ _ c.rule.ensures (sym c.is_some.ensures ∙ e), λ k. absurd (omega (arith, n)))),
      λ a. c.is_some.ensures ∙ there_rule _ _ _ c.rule.ensures (a.1.0 n),
    )

pub returns-in-LetIn : goal.returns-in-LetIn
returns-in-LetIn c =
    let n : number c.args.rule ≡ 2 = ap number c.in-LetIn.is in
    (λ e. (no_entries _ c.if-not-is_empty.ensures, (λ k. absurd (omega (arith, n)), λ k. absurd (omega (arith, n)))), λ a. refl)

pub returns-in-Bind : goal.returns-in-Bind
returns-in-Bind c =
    let n : 3 ≤ number c.args.rule = no_argument c.in-Bind.is in (
      λ e. (no_entries _ c.if-not-is_empty.ensures, (λ k. absurd (omega (arith, n)), λ k. grind (arith, nat_tests, e))),
      λ a. let z = a.1.1 n in grind (arith, nat_tests),
    )
