use Rattle.moves.proofs.Keeps.{moves_keep}
use Rattle.moves.proofs.laws.moves_keep.Goals as goal

pub returns : goal.returns
returns c = moves_keep
