use Rattle.terms.proofs.Standings.{standing}
use Rattle.terms.proofs.Steps.{opened, first_tree, stands_first}
use Rattle.verse_contexts.proofs.part.first.Goals as goal

pub invariant_of-result : goal.invariant_of-result
invariant_of-result c =
    let s = standing c.args.trees.standing in
    let o = opened s.0 s.1 c.if-trees-eq0.false in
    record { standing = ∣ (first_tree s.1 o, stands_first s.1 o) ∣₁ }
