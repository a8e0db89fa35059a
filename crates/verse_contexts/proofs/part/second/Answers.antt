use Rattle.std.proofs.Common.{◌≡◌, ◌+◌, ◌-◌, subst, arith}
use Rattle.terms.specs.Forest.{Are, Part}
use Rattle.terms.specs.Rows.{size}
use Rattle.verse_terms.proofs.Parts.{rooted}
use Rattle.verse_contexts.proofs.part.second.Goals as goal

pub returns : goal.returns
returns c =
    let h = c.in_ok-below.ensures in (
      h.0,
      λ a s.
          let o = rooted s in
          let k : Are c.in_ok-below.below o.ks = rw (h.2.cells, h.2.start, h.2.count, h.1) o.first in
          let e : c.end.result ≡ c.args.trees.at + size a = omega (arith, c.end.ensures o.ks k, h.2.start, o.sized) in
          subst (λ x. Part c.args.trees x (c.args.trees.n - 1) c.others.result) e c.others.ensures,
    )
