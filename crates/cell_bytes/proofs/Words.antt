-- Eight bytes and the cell that they spell. Assumes nothing.
use Rattle.std.proofs.Common.{◌≡◌, ℕ, zero, suc, ◌+◌, ◌*◌, ◌/◌, ◌%◌, ◌^◌, ◌<◌, ◌≤◌, List, [], ◌∷◌, ◌++◌, length, get_or, take, drop, refl, ap, ◌∙◌, arith}
use Rattle.std.proofs.lemmas.List.{drop_more, drop-drop}
use Rattle.std.specs.Simd.{first_chunks}
use Rattle.terms.specs.Lists.{All}
use Rattle.cell_bytes.specs.Spelling.{spell_cell, spell}

-- the number that eight digits in base 256 make
abbrev pub word : (a b c d e f g h : ℕ) → ℕ
word a b c d e f g h = a * 72057594037927936 + b * 281474976710656 + c * 1099511627776 + d * 4294967296 + e * 16777216 + f * 65536 + g * 256 + h

pub spell_word : (a b c d e f g h : ℕ) → a < 256 → b < 256 → c < 256 → d < 256 → e < 256 → f < 256 → g < 256 → h < 256 →
    spell_cell (word a b c d e f g h) ≡ a ∷ b ∷ c ∷ d ∷ e ∷ f ∷ g ∷ h ∷ []
spell_word a b c d e f g h la lb lc ld le lf lg lh =
    let x = word a b c d e f g h in
    let p : x / 2 ^ 56 ≡ a = omega arith in
    let q : x / 2 ^ 48 % 256 ≡ b = omega arith in
    let r : x / 2 ^ 40 % 256 ≡ c = omega arith in
    let s : x / 2 ^ 32 % 256 ≡ d = omega arith in
    let t : x / 2 ^ 24 % 256 ≡ e = omega arith in
    let u : x / 2 ^ 16 % 256 ≡ f = omega arith in
    let v : x / 2 ^ 8 % 256 ≡ g = omega arith in
    let w : x % 256 ≡ h = omega arith in
    cc

pub eight : (l : List ℕ) (i : ℕ) → i + 8 ≤ length l →
    take 8 (drop i l) ≡ get_or l i 0 ∷ get_or l (i + 1) 0 ∷ get_or l (i + 2) 0 ∷ get_or l (i + 3) 0 ∷ get_or l (i + 4) 0 ∷ get_or l (i + 5) 0 ∷ get_or l (i + 6) 0 ∷ get_or l (i + 7) 0 ∷ []
eight l i h =
    let a = drop_more l i 0 (omega arith) in
    let b = drop_more l (i + 1) 0 (omega arith) in
    let c = drop_more l (i + 1 + 1) 0 (omega arith) in
    let d = drop_more l (i + 1 + 1 + 1) 0 (omega arith) in
    let e = drop_more l (i + 1 + 1 + 1 + 1) 0 (omega arith) in
    let f = drop_more l (i + 1 + 1 + 1 + 1 + 1) 0 (omega arith) in
    let g = drop_more l (i + 1 + 1 + 1 + 1 + 1 + 1) 0 (omega arith) in
    let k = drop_more l (i + 1 + 1 + 1 + 1 + 1 + 1 + 1) 0 (omega arith) in
    let e2 : i + 1 + 1 ≡ i + 2 = omega arith in
    let e3 : i + 1 + 1 + 1 ≡ i + 3 = omega arith in
    let e4 : i + 1 + 1 + 1 + 1 ≡ i + 4 = omega arith in
    let e5 : i + 1 + 1 + 1 + 1 + 1 ≡ i + 5 = omega arith in
    let e6 : i + 1 + 1 + 1 + 1 + 1 + 1 ≡ i + 6 = omega arith in
    let e7 : i + 1 + 1 + 1 + 1 + 1 + 1 + 1 ≡ i + 7 = omega arith in
    rw (a, b, c, d, e, f, g, k, e7, e6, e5, e4, e3, e2)

-- the chunk with this number
pub chunk_at : (k i : ℕ) (l : List ℕ) → i < k → get_or (first_chunks 8 k l) i [] ≡ take 8 (drop (8 * i) l)
chunk_at zero i l h = absurd (omega arith)
chunk_at (suc k) zero l h = refl
chunk_at (suc k) (suc i) l h =
    let e : 8 + 8 * i ≡ 8 * suc i = omega arith in
    chunk_at k i (drop 8 l) (omega arith) ∙ ap (take 8) (drop-drop (8 * i) 8 l ∙ ap (λ n. drop n l) e)

-- one cell more
pub spell_more : (xs : List ℕ) (x : ℕ) → spell spell_cell (xs ++ x ∷ []) ≡ spell spell_cell xs ++ spell_cell x
spell_more [] x = refl
spell_more (y ∷ xs) x = ap (λ l. spell_cell y ++ l) (spell_more xs x)

pub all-++ : (P : ℕ → Type 0) (xs ys : List ℕ) → All P xs → All P ys → All P (xs ++ ys)
all-++ P [] ys a b = b
all-++ P (x ∷ xs) ys a b = (a.0, all-++ P xs ys a.1 b)
