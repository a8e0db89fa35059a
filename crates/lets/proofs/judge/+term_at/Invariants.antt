use Rattle.std.proofs.Common.{◌+◌, ◌-◌, length, replicate}
use Rattle.terms.specs.Grammar.{Lies}
use Rattle.lets.specs.Syntax.{admits, kids}
use Rattle.lets.specs.Syntax.Sort.{term}
use Rattle.lets.proofs.judge.+term_at.Given as goal

abbrev pub decreases-term_at : goal.decreases-term_at
decreases-term_at l = length l.cells.now - l.at

-- so many children, one beside the other
abbrev pub invariant-loop-judged : goal.invariant-loop-judged
invariant-loop-judged l = Lies admits kids (replicate l._judged term) l.cells (l.at + 1) l.end l.deepest
