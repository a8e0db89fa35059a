use Rattle.rewriting.proofs.Standings.{spelled}
use Rattle.rewriting.proofs.Redexes.{spelling, at_front}
use Rattle.rewriting.proofs.redex.Redex.trees.Goals as goal

pub invariant_of-result : goal.invariant_of-result
invariant_of-result c = let s = at_front (spelling c.args.self.lawful) in record { standing = ∣ (_, s.stands) ∣₁ }

pub returns : goal.returns
returns c = λ t h. (spelled t h.0 h.1).stands
