use Rattle.std.proofs.Common.{◌≡◌, ◌<◌, length, subst, inl, inr, arith, rules}
use Rattle.records.proofs.Passing.{Passed, one_passed, next_lacks, all_left}
use Rattle.records.proofs.steps_amiss.Goals as goal

pub returns-in-None : goal.returns-in-None
returns-in-None c =
    let more : c.loop.counter < c.args.count = omega arith in
    inl (next_lacks c.args.bytes.now c.args.count c.loop.counter c.loop.rest.now _ c.loop.invariant c.in-None.ensures more)

pub loop-preserved : goal.loop-preserved
loop-preserved c = one_passed c.args.bytes.now c.loop.counter c.loop.rest.now _ _ c.loop.invariant c.in-Some.ensures

pub returns-else-is_empty : goal.returns-else-is_empty
returns-else-is_empty c =
    let all : c.loop.counter ≡ c.args.count = omega arith in
    let left : 0 < length c.loop.rest.now = search rules in
    inr (all_left c.args.bytes.now c.args.count c.loop.rest.now _ (subst (λ n. Passed c.args.bytes.now n c.loop.rest.now) all c.loop.invariant) left (search rules))
