use Rattle.pieces.proofs.Shows.{Laid}
use Rattle.pieces.proofs.put_all.Given as goal

abbrev pub invariant-loop-piece : goal.invariant-loop-piece
invariant-loop-piece l = Laid l.pieces l.piece-index l.to l.initial.space l.space
