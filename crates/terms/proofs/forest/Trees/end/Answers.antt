use Rattle.terms.proofs.Standings.{standing, some_end, end_is}
use Rattle.terms.proofs.forest.Trees.end.Goals as goal

pub unwrap-requires : goal.unwrap-requires
unwrap-requires c = some_end c.skip.result c.skip.ensures (standing c.args.self.standing)

pub returns : goal.returns
returns c = λ t s. end_is c.skip.result c.skip.ensures c.unwrap.ensures t s
