use Rattle.std.proofs.Common.{◌≡◌, eqb, subst, sym, ap, ◌∙◌, Decides}
use lib.Pointwise.{pointwise}
use Rattle.terms.specs.Rows.Row.{none, node}
use Rattle.pieces.proofs.Splits.{alone}
use Rattle.pieces.proofs.parts.is.Goals as goal

pub returns : goal.returns
returns c = λ t s.
    subst (λ b. Decides b (t ≡ node c.args.cell none none)) (sym (c.eq.ensures ∙ ap (pointwise eqb c.args.part.now) c.as_slice.ensures)) (alone t c.args.cell c.args.part.now s)
