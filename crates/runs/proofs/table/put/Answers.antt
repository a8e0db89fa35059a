use Rattle.std.proofs.Common.{◌≡◌, ◌-◌, length, replicate, rules}
use Rattle.runs.proofs.Tables.{laying}
use Rattle.runs.proofs.table.put.Goals as goal

pub returns : goal.returns
returns c =
    let z : c.fill.new.self ≡ replicate (2048 - length c.args.term.now) 0 = search rules in
    laying c.args.term.now c.args.table.now _ _ c.copy_from_slice.ensures.after z c.requires.few
