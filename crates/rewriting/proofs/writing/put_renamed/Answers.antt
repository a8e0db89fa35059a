use Rattle.std.proofs.Common.{arith}
use Rattle.moves.specs.Renamings.{renamed}
use Rattle.moves.proofs.Overs.{part_length, written_over}
use Rattle.terms.proofs.Bridge.{rename_size}
use Rattle.terms.proofs.Standings.{standing}
use Rattle.rewriting.proofs.writing.put_renamed.Goals as goal

pub offset_bounds-space-to : goal.offset_bounds-space-to
offset_bounds-space-to c = let s = standing c.args.trees.standing in let r = c.requires.room s.0 s.1 in omega arith

pub slice_bounds-rename-count : goal.slice_bounds-rename-count
slice_bounds-rename-count c = let s = standing c.args.trees.standing in let r = c.requires.room s.0 s.1 in omega arith

pub slice_bounds-rename-start : goal.slice_bounds-rename-start
slice_bounds-rename-start c = let s = standing c.args.trees.standing in let r = c.requires.room s.0 s.1 in omega arith

pub rename-requires-clause-room : goal.rename-requires-clause-room
rename-requires-clause-room c = λ t s. let r = c.requires.room t s in omega (arith, part_length c.args.space.now c.args.to)

pub overflow_add-result : goal.overflow_add-result
overflow_add-result c =
    let s = standing c.args.trees.standing in
    let r = c.requires.room s.0 s.1 in
    let w = (c.rename.ensures s.0 s.1).count in
    omega (arith, rename_size (renamed c.args.how) 0 0 s.0)

pub returns-clause-end : goal.returns-clause-end
returns-clause-end c = λ t s. let w = (c.rename.ensures t s).count in omega (arith, rename_size (renamed c.args.how) 0 0 t)

pub returns-clause-wrote : goal.returns-clause-wrote
returns-clause-wrote c = λ t s. let r = c.requires.room t s in written_over _ _ (omega arith) (c.rename.ensures t s)
