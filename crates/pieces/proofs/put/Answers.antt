use Rattle.std.proofs.Common.{◌≡◌, length, ap, ◌∙◌, arith}
use Rattle.moves.proofs.Overs.{fronts_row}
use Rattle.terms.proofs.Steps.{size_within}
use Rattle.pieces.specs.Shown.{shown}
use Rattle.pieces.proofs.Shows.{moved_length, the_tree, tree_standing}
use Rattle.pieces.proofs.put.Goals as goal

pub invariant_of-tree : goal.invariant_of-tree
invariant_of-tree c = record { standing = tree_standing c.in-Moved.moved.tree }

pub rename-requires-clause-room : goal.rename-requires-clause-room
rename-requires-clause-room c = λ t s.
    let n : length (shown c.args.piece) ≡ length c.in-Moved.moved.cells.now = ap (λ p. length (shown p)) c.in-Moved.is ∙ moved_length c.in-Moved.moved.cells.now c.in-Moved.moved.how in
    omega (arith, size_within s, n, c.requires)

pub returns-in-Moved : goal.returns-in-Moved
returns-in-Moved c =
    let s = the_tree c.in-Moved.moved.tree in
    let w = fronts_row (c.rename.ensures s.0 s.1) in
    rw (c.in-Moved.is, s.2) (w.count, w.fits, w.writes)
