use Rattle.std.proofs.Common.{◌+◌, ◌-◌, length, ap, ◌∙◌, arith}
use Rattle.terms.specs.Lists.{over}
use Rattle.moves.proofs.Overs.{part_over}
use Rattle.rewriting.proofs.writing.put.Goals as goal

pub returns-clause-wrote : goal.returns-clause-wrote
returns-clause-wrote c =
    let e = ap length c.copy_from_slice.ensures.after in
    part_over c.args.space.now c.copy_from_slice.new.self c.args.to (c.args.to + length c.args.cells.now - c.args.to) (omega arith) (omega arith) ∙ ap (over c.args.space.now c.args.to) c.copy_from_slice.ensures.after
