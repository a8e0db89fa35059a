use Rattle.std.proofs.Common.{rules, ◌≤◌, Decides, subst, sym}
use Rattle.terms.specs.Cells.{Variable, payload}
use Rattle.terms.specs.Terms.{Small}
use Rattle.terms.proofs.Deciding.{decides_all}
use Rattle.terms.proofs.small.has_small_variables.Goals as goal

pub returns : goal.returns
returns c = subst (λ b. Decides b (Small c.args.cells.now)) (sym c.are_small.ensures) (decides_all {P = λ x. Variable x → payload x ≤ 65535} (λ x. search rules) c.args.cells.now)
