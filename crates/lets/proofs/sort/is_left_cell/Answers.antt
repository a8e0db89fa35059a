use Rattle.std.proofs.Common.{rules}
use Rattle.lets.specs.Syntax.{admits}
use Rattle.lets.proofs.sort.is_left_cell.Goals as goal

pub returns : goal.returns
unfolding admits
returns c = search rules
