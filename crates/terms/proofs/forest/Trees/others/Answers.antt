use Rattle.std.proofs.Common.{refl, arith}
use Rattle.terms.proofs.Steps.{opened, moved}
use Rattle.terms.proofs.Standings.{standing}
use Rattle.terms.proofs.forest.Trees.others.Goals as goal

pub invariant_of-result : goal.invariant_of-result
invariant_of-result c =
    let s = standing c.args.self.standing in
    let o = opened s.0 s.1 (λ z. omega (arith, z, c.requires.some)) in
    record { standing = ∣ (o.r, moved o.others refl (c.requires.ended o.ks o.first)) ∣₁ }
