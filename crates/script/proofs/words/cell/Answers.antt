use Rattle.std.proofs.Common.{rules}
use Rattle.script.proofs.Reading.{refused, not_cell}
use Rattle.script.proofs.words.cell.Goals as goal

pub returns-in_err-from_str_radix : goal.returns-in_err-from_str_radix
returns-in_err-from_str_radix c =
    refused c.from_residual.result _ c.from_residual.ensures.0 (not_cell c.args.word.now (search rules) c.in_err-from_str_radix.ensures.value)
