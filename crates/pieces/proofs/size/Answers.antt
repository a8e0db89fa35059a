use Rattle.std.proofs.Common.{sym, ap, length, ◌∙◌}
use Rattle.pieces.specs.Shown.{shown}
use Rattle.pieces.proofs.Shows.{moved_length}
use Rattle.pieces.proofs.size.Goals as goal

pub returns-in-Moved : goal.returns-in-Moved
returns-in-Moved c =
    sym (moved_length c.in-Moved.moved.cells.now c.in-Moved.moved.how) ∙ ap (λ p. length (shown p)) (sym c.in-Moved.is)
