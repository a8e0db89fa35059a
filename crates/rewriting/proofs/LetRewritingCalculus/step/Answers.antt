use Rattle.std.proofs.Common.{rules, ◌≡◌, ℕ, List, Err, Result, sym, refl, ap, ◌∙◌, subst, arith}
use Rattle.terms.specs.Rows.{Row}
use Rattle.calculus.specs.declared.no.No.{No}
use Rattle.calculus.specs.declared.no.No.TheVariants.{Formless}
use Rattle.calculus.specs.Answers.{StepAsked}
use Rattle.calculus.specs.Written.{Written}
use Rattle.calculus.proofs.Writings.{step_asked, no_redex}
use Rattle.lets.specs.Figure.{HasRule, Apt, line}
use Rattle.lets.specs.Meaning.{lets, meaning}
use Rattle.rewriting.specs.Programs.{program}
use Rattle.rewriting.specs.Rules.{number}
use Rattle.rewriting.proofs.Askings.{has_rule}
use Rattle.rewriting.proofs.LetRewritingCalculus.step.Goals as goal
use Rattle.rewriting.proofs.LetRewritingCalculus.step.Goals.{Else-not-is_apt}

-- the line of the rule that was asked for
as_rule : (n rule : ℕ) → rule ≡ n → (program : Row) (argument : ℕ) (t : Row) (space space' : List ℕ) (r : Result ℕ No) → Written (line n program argument t) space space' r → Written (line rule program argument t) space space' r
as_rule n rule e program argument t space space' r w = subst (λ k. Written (line k program argument t) space space' r) (sym e) w

-- the argument and the inner place suit the rule
apt : (c : goal.Else-not-is_apt) → Apt (program c.args.self.now) c.args.rule c.args.argument c.args.inner.now
apt c =
    subst (λ n. Apt (program c.args.self.now) n c.args.argument c.args.inner.now) (sym c.in_ok-rule.ensures) (c.is_apt.ensures.0 c.if-not-is_apt.false)

pub returns-in_err-redex : goal.returns-in_err-redex
returns-in_err-redex c =
    let bad = c.in_err-redex.ensures.0 in
    let is : c.from_residual-in_err-redex.result ≡ Err Formless = search rules in
    let has = subst HasRule (sym c.in_ok-rule.ensures) (has_rule c.in_ok-rule.rule) in
    subst (StepAsked (meaning (program c.args.self.now)) c.args.rule c.args.argument c.args.inner.now c.args.redex.now c.args.space.now c.args.space.now) (sym is) (no_redex (lets (program c.args.self.now)) c.args.rule c.args.argument _ _ _ _ has (apt (goal.at.returns-in_err-redex c).Else-not-is_apt) c.in_err-redex.ensures.1 refl)

pub returns-in-Fapp : goal.returns-in-Fapp
returns-in-Fapp c =
    let d = c.in_ok-redex.ensures.1 in
    let e : c.args.rule ≡ 1 = c.in_ok-rule.ensures ∙ ap number c.in-Fapp.is in
    let w = c.call_rule.ensures d.row d.lawful (d.reads ∙ sym c.in_ok-redex.ensures.0) in
    step_asked (lets (program c.args.self.now)) c.args.rule c.args.argument _ _ _ _ (omega arith, omega arith) (apt (goal.at.returns-in-Fapp c).Else-not-is_apt) d _ (as_rule 1 c.args.rule e _ _ _ _ _ _ w)

pub returns-in-LetIn : goal.returns-in-LetIn
returns-in-LetIn c =
    let d = c.in_ok-redex.ensures.1 in
    let e : c.args.rule ≡ 2 = c.in_ok-rule.ensures ∙ ap number c.in-LetIn.is in
    let w = c.let_in.ensures d.row d.lawful (d.reads ∙ sym c.in_ok-redex.ensures.0) in
    step_asked (lets (program c.args.self.now)) c.args.rule c.args.argument _ _ _ _ (omega arith, omega arith) (apt (goal.at.returns-in-LetIn c).Else-not-is_apt) d _ (as_rule 2 c.args.rule e _ _ _ _ _ _ w)

pub returns-in-Bind : goal.returns-in-Bind
returns-in-Bind c =
    let d = c.in_ok-redex.ensures.1 in
    let e : c.args.rule ≡ 3 = c.in_ok-rule.ensures ∙ ap number c.in-Bind.is in
    let w = c.bind_light.ensures d.row d.lawful (d.reads ∙ sym c.in_ok-redex.ensures.0) in
    step_asked (lets (program c.args.self.now)) c.args.rule c.args.argument _ _ _ _ (omega arith, omega arith) (apt (goal.at.returns-in-Bind c).Else-not-is_apt) d _ (as_rule 3 c.args.rule e _ _ _ _ _ _ w)

pub returns-in-Elim : goal.returns-in-Elim
returns-in-Elim c =
    let d = c.in_ok-redex.ensures.1 in
    let e : c.args.rule ≡ 4 = c.in_ok-rule.ensures ∙ ap number c.in-Elim.is in
    let w = c.eliminate.ensures d.row d.lawful (d.reads ∙ sym c.in_ok-redex.ensures.0) in
    step_asked (lets (program c.args.self.now)) c.args.rule c.args.argument _ _ _ _ (omega arith, omega arith) (apt (goal.at.returns-in-Elim c).Else-not-is_apt) d _ (as_rule 4 c.args.rule e _ _ _ _ _ _ w)

pub returns-in-Flat : goal.returns-in-Flat
returns-in-Flat c =
    let d = c.in_ok-redex.ensures.1 in
    let e : c.args.rule ≡ 5 = c.in_ok-rule.ensures ∙ ap number c.in-Flat.is in
    let w = c.flatten_lets.ensures d.row d.lawful (d.reads ∙ sym c.in_ok-redex.ensures.0) in
    step_asked (lets (program c.args.self.now)) c.args.rule c.args.argument _ _ _ _ (omega arith, omega arith) (apt (goal.at.returns-in-Flat c).Else-not-is_apt) d _ (as_rule 5 c.args.rule e _ _ _ _ _ _ w)
