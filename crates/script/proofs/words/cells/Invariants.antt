use Rattle.std.proofs.Common.{◌≡◌, ℕ, ◌<◌, ◌++◌, take, map, slice_index_or, List}
use Rattle.std.specs.Borrow.{Bor}
use Rattle.script.specs.Words.{IsCell, cell_of}
use Rattle.script.proofs.words.cells.Given as goal

abbrev pub invariant-loop-word : goal.invariant-loop-word
invariant-loop-word l = record {
  good : (k : ℕ) (d : Bor (List ℕ)) → k < l.word-index → IsCell (slice_index_or l.words k d).now;
  read : l.cells.items ≡ l.initial.cells.items ++ map (λ w. cell_of w.now) (take l.word-index l.words);
}
