use Rattle.runs.proofs.Mapped.{mapped_ok}
use Rattle.runs.proofs.Rewritings.{redex_ends, within, found}
use Rattle.runs.proofs.rewriting.split.Goals as goal

pub unwrap-end-requires : goal.unwrap-end-requires
unwrap-end-requires g c =
    let k = rw (mapped_ok _ c.down.result c.map_err.result c.in_ok-at.at c.map_err.ensures.cases c.in_ok-at.was) at (c.down.ensures c.requires.tree c.requires.is) in
    redex_ends c.args.term.now c.args.step.place.now c.in_ok-at.at k c.skip.result c.skip.ensures

pub split_at-requires : goal.split_at-requires
split_at-requires g c =
    let k = rw (mapped_ok _ c.down.result c.map_err.result c.in_ok-at.at c.map_err.ensures.cases c.in_ok-at.was) at (c.down.ensures c.requires.tree c.requires.is) in
    within c.args.term.now c.args.step.place.now c.in_ok-at.at k c.unwrap-end.result (rw c.unwrap-end.ensures at c.skip.ensures)

pub returns : goal.returns
returns g c =
    let k = rw (mapped_ok _ c.down.result c.map_err.result c.in_ok-at.at c.map_err.ensures.cases c.in_ok-at.was) at (c.down.ensures c.requires.tree c.requires.is) in
    found c.args.term.now c.args.step.place.now c.in_ok-at.at k c.unwrap-end.result (rw c.unwrap-end.ensures at c.skip.ensures) (g.C.Calculus.meaning c.args.calculus.now) c.split_at.result.0.now c.split_at-2.result.0.now c.split_at-2.result.1.now c.split_at.result.1.now c.if-not-site.ensures c.split_at.ensures.front c.split_at.ensures.back c.split_at-2.ensures.front c.split_at-2.ensures.back
