use Rattle.std.proofs.Common.{rules}
use Rattle.lets.specs.Syntax.{admits}
use Rattle.lets.proofs.sort.is_rule_cell.Goals as goal

pub returns-then-has-form : goal.returns-then-has-form
unfolding admits
returns-then-has-form c = search rules

pub returns-else-has-form : goal.returns-else-has-form
unfolding admits
returns-else-has-form c = search rules
