use Rattle.std.proofs.Common.{rules}
use Rattle.lets.specs.Syntax.{admits}
use Rattle.lets.proofs.sort.is_term_cell.Goals as goal

pub returns-then-is_symbol : goal.returns-then-is_symbol
unfolding admits
returns-then-is_symbol c = search rules

pub returns-then-has_form : goal.returns-then-has_form
unfolding admits
returns-then-has_form c = search rules

pub returns-else-has_form : goal.returns-else-has_form
unfolding admits
returns-else-has_form c = search rules
