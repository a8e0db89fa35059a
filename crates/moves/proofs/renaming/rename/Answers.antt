use Rattle.std.proofs.Common.{sym, subst}
use Rattle.terms.specs.Forest.{Are}
use Rattle.moves.proofs.renaming.rename.Goals as goal

pub returns : goal.returns
returns c = λ t a.
    let e = c.outer.ensures in
    rw (e.above, e.last) at (c.rename_scope.ensures t (subst (λ z. Are z t) (sym e.same) a))
