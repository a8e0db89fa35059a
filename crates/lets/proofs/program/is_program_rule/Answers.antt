use Rattle.std.proofs.Common.{rules, ◌-◌, ◌≤◌, length, take, drop, Decides, sym, arith}
use borrow.Author.Tests.{tests}
use Rattle.std.proofs.lemmas.Iterator.{YieldsList-from_slice}
use Rattle.std.proofs.lemmas.Iterator.Search.{all_from_yields_List}
use Rattle.std.proofs.lemmas.Bool.Decides.{not_from_Decides}
use Rattle.terms.specs.Terms.{Laid}
use Rattle.terms.proofs.Deciding.{fails, contrary}
use Rattle.lets.specs.Syntax.{admits}
use Rattle.lets.specs.Syntax.Sort.{term}
use Rattle.lets.specs.Checks.{Admitted}
use Rattle.lets.proofs.Sides.{admitted_all}
use Rattle.lets.proofs.Arrows.{Sides, not_empty, sides, has_sides, rule_laid, rule_first, not_left, not_right, not_numbered, rule_decided}
use Rattle.lets.proofs.program.is_program_rule.Goals as goal
use Rattle.lets.proofs.program.is_program_rule.Goals.{In-Some, After-all}

laid : (c : goal.In-Some) → Laid c.args.cells.now
laid c = c.keeps_layout.ensures.0 c.if-not-keeps_layout.false

sides_of : (c : goal.In-Some) → Sides c.args.cells.now c.in-Some.middle
sides_of c = sides c.args.cells.now (laid c) (sym c.if-not-is_rule_cell.ensures) c.in-Some.middle c.in-Some.ensures

pub returns-then-not-keeps_layout : goal.returns-then-not-keeps_layout
returns-then-not-keeps_layout c = fails (λ r. not_from_Decides _ c.keeps_layout.ensures c.if-not-keeps_layout.true (rule_laid _ r))

pub bounds-cells-0 : goal.bounds-cells-0
bounds-cells-0 c = not_empty c.args.cells.now (c.keeps_layout.ensures.0 c.if-not-keeps_layout.false)

pub returns-then-not-is_rule_cell : goal.returns-then-not-is_rule_cell
returns-then-not-is_rule_cell c = fails (λ r. contrary (rule_first _ r) (sym c.if-not-is_rule_cell.ensures))

pub returns-in_default : goal.returns-in_default
returns-in_default c =
    fails (λ r. has_sides c.args.cells.now (c.keeps_layout.ensures.0 c.if-not-keeps_layout.false) (sym c.if-not-is_rule_cell.ensures) c.in_default.ensures)

pub slice_bounds-left-end : goal.slice_bounds-left-end
slice_bounds-left-end c = let s = sides_of c in let w : c.in-Some.middle ≤ length c.args.cells.now = s.within in omega arith

pub returns-then-not-are_left_cells : goal.returns-then-not-are_left_cells
returns-then-not-are_left_cells c =
    fails (not_left _ _ (sides_of (goal.at.returns-then-not-are_left_cells c).In-Some) (not_from_Decides _ c.are_left_cells.ensures c.if-not-are_left_cells.true))

-- is the right side admitted?
right_admitted : (c : goal.After-all) → Decides c.all.result (Admitted term (take (length c.args.cells.now - c.in-Some.middle) (drop c.in-Some.middle c.args.cells.now)))
right_admitted c =
    admitted_all term _ _ (all_from_yields_List (admits term) _ _ _ c.all.ensures.ran (YieldsList-from_slice _ cc) (λ x b q k. search (rules, tests)))

pub returns-then-not-all : goal.returns-then-not-all
returns-then-not-all c =
    fails (not_right _ _ (sides_of (goal.at.returns-then-not-all c).In-Some) (not_from_Decides _ (right_admitted (goal.at.returns-then-not-all c).After-all) c.if-not-all.true))

pub returns-in_default-variables : goal.returns-in_default-variables
returns-in_default-variables c = fails (not_numbered _ _ (sides_of (goal.at.returns-in_default-variables c).In-Some) c.in_default-variables.ensures)

pub invariant_of-right : goal.invariant_of-right
invariant_of-right c = let s = sides_of (goal.at.invariant_of-right c).In-Some in record { standing = ∣ (s.r, s.stands) ∣₁ }

pub returns : goal.returns
returns c =
    let s = sides_of (goal.at.returns c).In-Some in
    rule_decided _ _ s (laid (goal.at.returns c).In-Some) (c.are_left_cells.ensures.0 c.if-not-are_left_cells.false) ((right_admitted (goal.at.returns c).After-all).0 c.if-not-all.false) _ c.in-Some-variables.ensures c.bounded.result _ c.is_some.ensures c.bounded.ensures
