use Rattle.std.proofs.Common.{◌≡◌, ◌+◌, ◌*◌, ◌/◌, ◌^◌, ◌<◌, ◌≤◌, [], ◌∷◌, ◌++◌, length, take, drop, sym, ap, ◌∙◌, subst, arith, take-add, get_or}
use Rattle.std.proofs.lemmas.List.{take_more_set, drop-set-lt, drop-drop, get_or-take, length-take-le}
use Rattle.terms.specs.Lists.{All}
use Rattle.cell_bytes.specs.Spelling.{spell, spell_cell}
use Rattle.cell_bytes.proofs.Words.{spell_more, all-++, chunk_at}
use Rattle.cell_bytes.proofs.read_cells.Goals as goal

pub loop-i-preserved : goal.loop-i-preserved
loop-i-preserved c =
    let i = c.loop-i.i in
    let new = c.loop-i.cells in
    let x = c.cell.result in
    let bytes = c.args.bytes.now in
    let words = c.as_chunks.result.0.now in
    let n = c.min-n.result in
    let some : n ≤ length words = omega arith in
    let all = length-take-le n words some in
    let few : i < n = omega (arith, all) in
    let h : i < length new = omega arith in
    let within : i < length bytes / 8 = omega (arith, c.as_chunks.ensures.front_len) in
    let k : 8 * i + 8 ≡ 8 * (i + 1) = omega arith in
    let is : spell_cell x ≡ take 8 (drop (8 * i) bytes) =
    c.cell.ensures ∙ get_or-take n words i [] few ∙ ap (λ l. get_or l i []) c.as_chunks.ensures.front ∙ chunk_at (length bytes / 8) i bytes within in (
      subst (All (λ c. c < 2 ^ 64)) (sym (take_more_set new i x h)) (all-++ (λ c. c < 2 ^ 64) (take i new) (x ∷ []) c.loop-i.invariant.0 (c.cell.type_inv, tt)),
      ap (spell spell_cell) (take_more_set new i x h) ∙ spell_more (take i new) x ∙ ap (λ l. l ++ spell_cell x) c.loop-i.invariant.1
          ∙ ap (λ l. take (8 * i) bytes ++ l) is ∙ sym (take-add (8 * i) 8 bytes) ∙ ap (λ n. take n bytes) k,
      drop-set-lt (i + 1) new i x (omega arith) ∙ sym (drop-drop 1 i new) ∙ ap (drop 1) c.loop-i.invariant.2 ∙ drop-drop 1 i c.args.cells.now,
    )
