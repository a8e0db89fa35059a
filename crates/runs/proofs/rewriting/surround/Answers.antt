use Rattle.std.proofs.Common.{arith}
use Rattle.runs.proofs.Rewritings.{surround_is}
use Rattle.runs.proofs.rewriting.surround.Goals as goal

pub returns : goal.returns
returns c =
    surround_is c.args.space.now _ _ c.args.parts.left.now _ c.args.parts.right.now c.args.n _ (omega arith) c.copy_within.ensures.after c.copy_from_slice.ensures.after c.copy_from_slice-2.ensures.after
