use Rattle.std.proofs.Common.{◌≡◌, ◌<◌, length, refl, arith}
use Rattle.cell_bytes.proofs.Fills.{Bytes}
use Rattle.records.proofs.Heads.{leading, leading_is, size, lacks, place_lacks, inner_lacks, stands_cut}
use Rattle.records.proofs.first_step.Goals as goal

pub returns-in_err-head : goal.returns-in_err-head
returns-in_err-head c =
    let l = c.args.bytes.now in
    let fit : Bytes l = λ k. omega (arith, c.type_inv.bytes k) in
    let few : length l < size l = omega (arith, c.in_err-head.ensures.cases) in
    rw c.from_residual.ensures (lacks l fit few)

pub returns-in_err-place : goal.returns-in_err-place
returns-in_err-place c =
    let l = c.args.bytes.now in
    let fit : Bytes l = λ k. omega (arith, c.type_inv.bytes k) in
    let e : c.from_be_bytes-head.result ≡ leading l = leading_is l _ _ c.in_ok-head.ensures.cases.0 c.from_be_bytes-head.ensures in
    rw c.from_residual-in_err-place.ensures (lacks l fit (place_lacks l _ e _ c.in_ok-head.ensures.cases.1 c.in_err-place.ensures.cases))

pub returns-in_err-inner : goal.returns-in_err-inner
returns-in_err-inner c =
    let l = c.args.bytes.now in
    let fit : Bytes l = λ k. omega (arith, c.type_inv.bytes k) in
    let e : c.from_be_bytes-head.result ≡ leading l = leading_is l _ _ c.in_ok-head.ensures.cases.0 c.from_be_bytes-head.ensures in
    rw c.from_residual-in_err-inner.ensures (lacks l fit (inner_lacks l _ e _ c.in_ok-head.ensures.cases.1 _ _ c.in_ok-place.ensures.cases c.in_err-inner.ensures.cases))

pub returns : goal.returns
returns c =
    let l = c.args.bytes.now in
    let fit : Bytes l = λ k. omega (arith, c.type_inv.bytes k) in
    let e : c.from_be_bytes-head.result ≡ leading l = leading_is l _ _ c.in_ok-head.ensures.cases.0 c.from_be_bytes-head.ensures in
    stands_cut l fit c.from_be_bytes-head.result e (omega (arith, c.in_ok-head.ensures.cases)) _ _ c.in_ok-place.others.now c.in_ok-inner.rest.now c.in_ok-head.ensures.cases.1 refl refl c.in_ok-place.ensures.cases c.in_ok-inner.ensures.cases
