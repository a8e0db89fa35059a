use Rattle.std.proofs.Common.{◌+◌, ◌-◌, length, take}
use Rattle.terms.specs.Grammar.{Lies}
use Rattle.verse.specs.Syntax.{admits, kids}
use Rattle.verse_terms.specs.Sorts.{sort_of}
use Rattle.verse_terms.proofs.judge.+tree.Given as goal

abbrev pub decreases-tree : goal.decreases-tree
decreases-tree l = length l.cells.now - l.at

-- the first n children lie side by side
abbrev pub invariant-loop-n : goal.invariant-loop-n
invariant-loop-n l = Lies admits kids (take l.n (kids (sort_of l.fn.sort) l.c)) l.cells (l.at + 1) l.end l.deepest
