use Rattle.std.proofs.Common.{arith}
use Rattle.terms.proofs.Steps.{size_within}
use Rattle.pieces.proofs.Splits.{paired, some_first}
use Rattle.pieces.proofs.parts.two.Goals as goal

pub returns-in_err-mid : goal.returns-in_err-mid
returns-in_err-mid c = λ t s.
    let x = c.in_ok-kids.ensures.cases in
    absurd (some_first t c.args.cell c.args.part.now s c.requires c.in_ok-kids.kids.now x.0 x.1 c.in_err-mid.ensures)

pub split_at-requires : goal.split_at-requires
split_at-requires c = let h = c.in_ok-mid.ensures in omega (arith, size_within h.1, h.2)

pub returns : goal.returns
returns c = λ t s.
    let x = c.in_ok-kids.ensures.cases in
    paired t c.args.cell c.args.part.now s c.requires c.in_ok-kids.kids.now x.0 x.1 c.in_ok-mid.mid c.in_ok-mid.ensures _ _ c.split_at.ensures.front c.split_at.ensures.back
