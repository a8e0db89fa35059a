use Rattle.std.proofs.Common.{◌≡◌, ◌*◌, ◌^◌, ◌<◌, take, drop}
use Rattle.terms.specs.Lists.{All}
use Rattle.cell_bytes.specs.Spelling.{spell, spell_cell}
use Rattle.cell_bytes.proofs.read_cells.Given as goal

abbrev pub invariant-loop-i : goal.invariant-loop-i
invariant-loop-i l =
    All (λ c. c < 2 ^ 64) (take l.i l.cells)
    × (spell spell_cell (take l.i l.cells) ≡ take (8 * l.i) l.bytes) × (drop l.i l.cells ≡ drop l.i l.initial.cells)
