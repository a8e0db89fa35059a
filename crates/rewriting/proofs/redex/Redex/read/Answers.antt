use Rattle.std.proofs.Common.{refl}
use Rattle.rewriting.proofs.Askings.{redex_spells}
use Rattle.rewriting.proofs.redex.Redex.read.Goals as goal

pub invariant_of-result : goal.invariant_of-result
invariant_of-result c = record { lawful = ∣ redex_spells _ (c.is_redex.ensures.0 c.if-not-is_redex.false) ∣₁ }

pub returns : goal.returns
returns c = (refl, c.is_redex.ensures.0 c.if-not-is_redex.false)
