use Rattle.std.proofs.Common.{◌∙◌}
use Rattle.pieces.proofs.Splits.{topped}
use Rattle.pieces.proofs.parts.top.Goals as goal

pub returns-clause-reads : goal.returns-clause-reads
returns-clause-reads c = λ t s. topped t c.args.part.now c.copied.result s (c.copied.ensures ∙ c.first.ensures.value)
