use Rattle.std.proofs.Common.{refl, arith}
use Rattle.terms.proofs.Steps.{opened, moved}
use Rattle.terms.proofs.Standings.{standing}
use Rattle.terms.proofs.forest.Trees.first.Goals as goal

pub offset_bounds-self-self : goal.offset_bounds-self-self
offset_bounds-self-self c = let s = standing c.args.self.standing in let o = opened s.0 s.1 c.if-self-eq0.false in omega (arith, o.within, o.sized)

pub bounds-self-self : goal.bounds-self-self
bounds-self-self c = let s = standing c.args.self.standing in let o = opened s.0 s.1 c.if-self-eq0.false in omega (arith, o.within, o.sized)

pub overflow_add-below : goal.overflow_add-below
overflow_add-below c = let s = standing c.args.self.standing in let o = opened s.0 s.1 c.if-self-eq0.false in omega (arith, o.within, o.sized)

pub invariant_of-below : goal.invariant_of-below
invariant_of-below c =
    let s = standing c.args.self.standing in
    let o = opened s.0 s.1 c.if-self-eq0.false in
    record { standing = ∣ (o.ks, moved o.first c.children.ensures refl) ∣₁ }
