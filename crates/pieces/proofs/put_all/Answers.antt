use Rattle.pieces.proofs.Shows.{laid_more}
use Rattle.pieces.proofs.put_all.Goals as goal

pub loop-piece-preserved : goal.loop-piece-preserved
loop-piece-preserved c = laid_more _ _ _ _ _ _ _ _ c.loop-piece.invariant c.loop-piece-test.true c.piece-item.is c.put-to.ensures
