use Rattle.std.proofs.Common.{Some, None, vec_items, sym, subst}
use Rattle.terms.specs.Standing.{Ends}
use Rattle.lets.specs.Owned.{GoodRules, RuleAsked}
use Rattle.lets.proofs.Owners.{good_rules, rule_none, rule_past, rule_there}
use Rattle.lets.proofs.rules.Rules.rule.Goals as goal
use Rattle.lets.proofs.rules.Rules.rule.Goals.{After-cells-cells}

good : (c : goal.After-cells-cells) → GoodRules (vec_items c.args.self.now.cells)
good c = good_rules (vec_items c.args.self.now.cells) c.args.self.now.good

pub returns-in_err-start : goal.returns-in_err-start
returns-in_err-start c =
    subst (RuleAsked (vec_items c.args.self.now.cells) c.args.number) (sym c.from_residual.ensures) (rule_none _ (good (goal.at.returns-in_err-start c).After-cells-cells) _ (subst (λ l. Ends c.args.number l 0 None) c.cells-cells.ensures c.in_err-start.ensures))

pub returns-in_err-end : goal.returns-in_err-end
returns-in_err-end c =
    subst (RuleAsked (vec_items c.args.self.now.cells) c.args.number) (sym c.from_residual-in_err-end.ensures) (rule_past _ (good (goal.at.returns-in_err-end c).After-cells-cells) _ _ (subst (λ l. Ends c.args.number l 0 (Some c.in_ok-start.start)) c.cells-cells.ensures c.in_ok-start.ensures) (subst (λ l. Ends 1 l c.in_ok-start.start None) c.cells-cells.ensures c.in_err-end.ensures))

pub returns : goal.returns
returns c =
    rule_there _ (good (goal.at.returns c).After-cells-cells) _ _ (subst (λ l. Ends c.args.number l 0 (Some c.in_ok-start.start)) c.cells-cells.ensures c.in_ok-start.ensures) _ (subst (λ l. Ends 1 l c.in_ok-start.start (Some c.in_ok-end.end)) c.cells-cells.ensures c.in_ok-end.ensures)
