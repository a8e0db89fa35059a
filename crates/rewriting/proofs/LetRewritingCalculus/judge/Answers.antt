use Rattle.lets.proofs.Meaning.{judges}
use Rattle.rewriting.specs.Programs.{program}
use Rattle.rewriting.proofs.LetRewritingCalculus.judge.Goals as goal

pub returns : goal.returns
returns c = judges (program c.args.self.now) c.args.cells.now _ c.judge.ensures
