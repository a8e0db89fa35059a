use Rattle.std.proofs.Common.{◌≡◌, ◌+◌, ◌≤◌, length, drop}
use Rattle.pieces.specs.Shown.{shown_all}
use Rattle.pieces.proofs.count.Given as goal

abbrev pub invariant-loop-piece : goal.invariant-loop-piece
invariant-loop-piece l =
    (l.left ≤ l.room) × (l.room + length (shown_all (drop l.piece-index l.pieces)) ≡ l.left + length (shown_all l.pieces))
