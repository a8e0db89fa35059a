use Rattle.std.proofs.Common.{arith}
use Rattle.terms.proofs.Judgings.{exit_whole, refused_rest}
use Rattle.verse.specs.Syntax.{admits, kids}
use Rattle.verse_terms.proofs.judge.judge.Goals as goal

pub returns-in_err-end : goal.returns-in_err-end
returns-in_err-end c = exit_whole admits kids _ _ _ _ c.from_residual.ensures.1 c.in_err-end.ensures

pub returns-then-end-cells : goal.returns-then-end-cells
returns-then-end-cells c = refused_rest admits kids _ _ _ _ c.in_ok-end.ensures (omega arith)
