-- The kinds of the cells of let-rewriting.
use Rattle.std.specs.Prelude.{ℕ}
use Rattle.lets.specs.declared.kind.Kind.{Kind}
use Rattle.lets.specs.declared.kind.Kind.TheVariants.{Variable, Constructor, Function, Marked, Let, Rule}

-- the number of a kind
abbrev pub code : Kind → ℕ
code Variable = 0
code Constructor = 32
code Function = 33
code Marked = 34
code Let = 35
code Rule = 36
