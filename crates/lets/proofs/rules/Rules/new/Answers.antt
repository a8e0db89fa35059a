use Rattle.std.proofs.Common.{vec_items, sym, ap, subst, inl, inr}
use Rattle.terms.specs.Reading.{trees}
use Rattle.lets.specs.Syntax.{Has}
use Rattle.lets.specs.Owned.{GoodRules}
use Rattle.lets.specs.Checks.{ProgramChecked}
use Rattle.lets.proofs.Owners.{owned}
use Rattle.lets.proofs.rules.Rules.new.Goals as goal
use Rattle.lets.proofs.rules.Rules.new.Goals.{then-is_some, else-is_some, Joined-is_some}

kept : (c : goal.Joined-is_some) → GoodRules (vec_items c.if-is_some.cells) × Has (vec_items c.args.cells) (trees (vec_items c.if-is_some.cells))
kept c =
    owned (vec_items c.args.cells) (vec_items c.if-is_some.cells) c.first_bad_rule.result (subst (λ l. ProgramChecked l c.first_bad_rule.result) c.deref.ensures.value c.first_bad_rule.ensures)
    (elim c.if-is_some.branch [
      | then-is_some w ↦ inl (sym w.if-is_some.ensures, cc)
      | else-is_some w ↦ inr (sym w.if-is_some.ensures, ap vec_items w.cells-is)
    ])

pub invariant_of-result : goal.invariant_of-result
invariant_of-result c = record { good = (λ n. n (kept c).0) }

pub returns : goal.returns
returns c = (kept (goal.at.returns c).Joined-is_some).1
