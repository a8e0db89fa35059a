use Rattle.std.proofs.Common.{length}
use Rattle.script.specs.Words.{parts_of}
use Rattle.script.proofs.Reading.{ReadTo}
use Rattle.script.proofs.words.place.Given as goal

abbrev pub invariant-loop-entry : goal.invariant-loop-entry
invariant-loop-entry l = ReadTo (parts_of l.fn.word) (length l.yielded) l.initial.entries.items l.entries.items
