use Rattle.pieces.proofs.Splits.{only_child}
use Rattle.pieces.proofs.parts.only.Goals as goal

pub returns : goal.returns
returns c = λ t s. only_child t c.args.cell c.args.part.now s c.requires c.strip_prefix.result c.strip_prefix.ensures.cases
