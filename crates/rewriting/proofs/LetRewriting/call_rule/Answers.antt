use Rattle.std.proofs.Common.{◌-◌, length, take, drop, sym, ap, ◌∙◌, subst, arith}
use Rattle.terms.proofs.Steps.{size_within}
use Rattle.lets.specs.Owned.{RuleStands, RuleAsked}
use Rattle.rewriting.specs.Programs.{program}
use Rattle.rewriting.proofs.Standings.{tree_here}
use Rattle.rewriting.proofs.Askings.{rule_of}
use Rattle.rewriting.proofs.LetRewriting.call_rule.Goals as goal
use Rattle.rewriting.proofs.LetRewriting.call_rule.Goals.{After-unwrap-start}

-- the rule that was found
found : (c : goal.After-unwrap-start) → RuleStands c.args.self.now.rules.cells.items c.args.argument c.unwrap-start.result.0 c.unwrap-start.result.1
found c = subst (RuleAsked c.args.self.now.rules.cells.items c.args.argument) c.unwrap-start.ensures c.rule.ensures

pub slice_bounds-call-end : goal.slice_bounds-call-end
slice_bounds-call-end c =
    let s = found (goal.at.slice_bounds-call-end c).After-unwrap-start in
    let w = size_within s.stands in
    let h = tree_here s.stands in
    let e = ap length c.cells.ensures in
    omega (arith, s.ended)

pub call-requires : goal.call-requires
call-requires c =
    let o = rule_of (found (goal.at.call-requires c).After-unwrap-start) in
    record { row = _; lawful = o.0; reads = o.1 ∙ ap (λ l. take (c.unwrap-start.result.1 - c.unwrap-start.result.0) (drop c.unwrap-start.result.0 l)) (sym c.cells.ensures) }

pub returns : goal.returns
returns c =
    let o = rule_of (found (goal.at.returns c).After-unwrap-start) in
    c.call.ensures (program c.args.self.now) c.args.argument (o.0, o.1 ∙ ap (λ l. take (c.unwrap-start.result.1 - c.unwrap-start.result.0) (drop c.unwrap-start.result.0 l)) (sym c.cells.ensures))
