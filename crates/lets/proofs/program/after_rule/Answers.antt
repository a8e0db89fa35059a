use Rattle.std.proofs.Common.{Decides, MatchOption, sym, subst, arith}
use Rattle.terms.proofs.Endings.{ends_within}
use Rattle.lets.specs.Checks.{RuleCells, NoRuleFirst, RuleFirst}
use Rattle.lets.proofs.Rulings.{no_rule, rule_or_none}
use Rattle.lets.proofs.program.after_rule.Goals as goal

pub returns-in_err-skip : goal.returns-in_err-skip
returns-in_err-skip c =
    subst (λ r. MatchOption r (NoRuleFirst c.args.cells.now) (λ rest. RuleFirst c.args.cells.now rest.now)) (sym c.from_residual.ensures) (no_rule _ c.in_err-skip.ensures)

pub split_at-requires : goal.split_at-requires
split_at-requires c = (ends_within 1 c.args.cells.now 0 c.in_ok-skip.field-0 (omega arith) c.in_ok-skip.ensures).1

pub returns : goal.returns
returns c =
    rule_or_none _ _ c.in_ok-skip.ensures _ _ _ c.then_some.ensures (subst (λ l. Decides c.is_program_rule.result (RuleCells l)) c.split_at.ensures.front c.is_program_rule.ensures) c.split_at.ensures.back
