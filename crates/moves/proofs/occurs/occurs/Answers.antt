use Rattle.std.proofs.Common.{sym, subst}
use Rattle.terms.specs.Forest.{Are}
use Rattle.moves.proofs.Seeks.{first_found}
use Rattle.moves.proofs.occurs.occurs.Goals as goal

pub returns : goal.returns
returns c = λ t a.
    let e = c.outer.ensures in
    first_found c.args.x 0 0 c.args.trees.at t c.search.result c.err.ensures.value (rw (e.above, e.last, e.same) at (c.search.ensures t (subst (λ z. Are z t) (sym e.same) a)))
