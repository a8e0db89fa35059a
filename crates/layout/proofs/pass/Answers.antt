use Rattle.std.proofs.Common.{◌<◌, length, sym, subst, arith}
use Rattle.layout.specs.Open.{Follows}
use Rattle.layout.proofs.Opens.{opened, held_front, follows_more}
use Rattle.terms.proofs.Walks.{next_leaf}
use Rattle.layout.proofs.pass.Goals as goal

pub returns-then-children-eq0 : goal.returns-then-children-eq0
returns-then-children-eq0 c =
    λ up e a o.
    let h = held_front c.args.walk.now c.args.height up e o in
    follows_more _ _ _ _ (subst (λ u. Follows c.close.new.walk u c.close.result) (sym (next_leaf c.args.c up (omega arith))) (c.close.ensures up h.0 h.1))

pub returns : goal.returns
returns c =
    λ up e a o.
    let within : c.args.height < length c.args.walk.now = omega arith in
    opened _ _ c.args.c _ up e within (omega arith) (c.enter.ensures up a) o
