use Rattle.std.proofs.Common.{sym, subst, rules}
use Rattle.script.specs.Words.{AreCells}
use Rattle.script.proofs.Reading.{rest}
use Rattle.script.proofs.Lines.{carried}
use Rattle.script.proofs.Script.begin.Goals as goal

pub returns-in_err-cells-in-calculus : goal.returns-in_err-cells-in-calculus
returns-in_err-cells-in-calculus c =
    carried _ _ c.in_err-cells-in-calculus.field-0.0 (search rules) c.in_err-cells-in-calculus.ensures (λ p. subst AreCells (sym (rest c.args.words.now 2)) p.3)
