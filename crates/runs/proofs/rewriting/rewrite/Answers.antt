use Rattle.std.proofs.Common.{arith}
use Rattle.runs.specs.Rewriting.{step_of}
use Rattle.runs.proofs.Rewritings.{longer}
use Rattle.runs.proofs.rewriting.rewrite.Goals as goal

pub returns : goal.returns
returns g c =
    longer (g.C.Calculus.meaning c.args.calculus.now) c.args.term.now (step_of c.args.step) c.rewrite_within.new.space _ c.rewrite_within.result (omega (arith, c.rewrite_within.ensures.cells)) c.rewrite_within.ensures.leads
