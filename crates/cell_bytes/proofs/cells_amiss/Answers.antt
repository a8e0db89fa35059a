use Rattle.std.proofs.Common.{rules, ◌≡◌, ◌≢◌, ◌*◌, ◌%◌, ◌<◌, length, inl, inr, arith}
use Rattle.cell_bytes.proofs.Fills.{Bytes, filled, cells_lack, cells_over}
use Rattle.cell_bytes.proofs.cells_amiss.Goals as goal
use Rattle.cell_bytes.proofs.cells_amiss.Goals.{then-words-count-2-via-then-words-count-2 as more_words, then-words-count-2-via-else-words-count-2+then-not-is_empty as bytes_left}

pub returns-then-words-count : goal.returns-then-words-count
returns-then-words-count c =
    let l = c.args.bytes.now in
    let fit : Bytes l = λ k. omega (arith, c.type_inv.bytes k) in
    let few : length l < 8 * c.args.count = omega (arith, c.as_chunks.ensures.front_len) in
    inl (cells_lack c.args.count l fit few _ (omega arith))

pub returns-then-words-count-2 : goal.returns-then-words-count-2
returns-then-words-count-2 c =
    let l = c.args.bytes.now in
    let fit : Bytes l = λ k. omega (arith, c.type_inv.bytes k) in
    let more : 8 * c.args.count < length l =
    elim c.then-words-count-2.branch [
      | more_words w ↦ omega (arith, c.as_chunks.ensures.front_len)
      | bytes_left w ↦ let left : length c.as_chunks.result.1.now ≢ 0 = search rules in omega (arith, c.as_chunks.ensures.front_len, c.as_chunks.ensures.back_len)
    ] in
    inr (cells_over c.args.count l fit more _ (omega arith))

pub returns : goal.returns
returns c =
    let l = c.args.bytes.now in
    let fit : Bytes l = λ k. omega (arith, c.type_inv.bytes k) in
    let none : length l % 8 ≡ 0 = search rules in
    let as_many : length l ≡ 8 * c.args.count = omega (arith, c.as_chunks.ensures.front_len) in
    filled c.args.count l fit as_many
