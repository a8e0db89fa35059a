-- The program of let-rewriting.
use Rattle.std.specs.Prelude.{vec_items}
use Rattle.terms.specs.Rows.{Row}
use Rattle.terms.specs.Reading.{trees}
use Rattle.rewriting.specs.declared.LetRewriting.{LetRewriting}

-- its rules side by side, read off the cells that it owns
abbrev pub program : LetRewriting → Row
program s = trees (vec_items s.rules.cells)
