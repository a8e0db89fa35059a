use Rattle.std.proofs.Common.{arith}
use Rattle.moves.proofs.Calls.{term_stands}
use Rattle.pieces.proofs.Shows.{tree_standing}
use Rattle.verse_rules.proofs.Clears.{held}
use Rattle.verse_rules.proofs.lying.lies_in.Goals as goal

pub invariant_of-value : goal.invariant_of-value
invariant_of-value c = record { standing = tree_standing c.requires }

pub returns : goal.returns
returns c = λ v h. held c.args.x 0 v c.clear_of.result _ (omega arith) h.lawful (c.clear_of.ensures v (term_stands h.is)) c.is_none.ensures
