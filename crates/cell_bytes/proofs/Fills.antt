-- Bytes hold so many cells exactly when there are eight times as many. Assumes nothing.
use Rattle.std.proofs.Common.{◌≡◌, ℕ, zero, suc, ◌+◌, ◌-◌, ◌*◌, ◌^◌, ◌<◌, List, [], ◌∷◌, ◌++◌, length, get_or, take, drop, replicate, sym, refl, ap, ◌∙◌, arith, length-append, length-drop, take-append-drop, length-take}
use lib.ListN.{length-replicate}
use Rattle.std.proofs.lemmas.List.{drop_more, get_or-drop}
use Rattle.cell_bytes.specs.Spelling.{spell_cell, spell}
use Rattle.cell_bytes.specs.Holding.{Holds, Lacking, LeftOver, Cells}
use Rattle.cell_bytes.proofs.Words.{word, spell_word, eight}

-- every entry is a byte
abbrev pub Bytes : List ℕ → Type 0
Bytes l = (k : ℕ) → get_or l k 0 < 256

pub bytes_drop : (n : ℕ) (l : List ℕ) → Bytes l → Bytes (drop n l)
bytes_drop n l b k = rw (get_or-drop n l k 0) (b (n + k))

pub bytes_take : (n : ℕ) (l : List ℕ) → Bytes l → Bytes (take n l)
bytes_take zero l b k = omega arith
bytes_take (suc n) [] b k = b k
bytes_take (suc n) (x ∷ l) b zero = b 0
bytes_take (suc n) (x ∷ l) b (suc k) = bytes_take n l (λ i. b (suc i)) k

-- zeros behind a list are what is read past its end anyway
pub get_or_padded : (l : List ℕ) (n k : ℕ) → get_or (l ++ replicate n 0) k 0 ≡ get_or l k 0
get_or_padded [] zero k = refl
get_or_padded [] (suc n) zero = refl
get_or_padded [] (suc n) (suc k) = get_or_padded [] n k
get_or_padded (x ∷ l) n zero = refl
get_or_padded (x ∷ l) n (suc k) = get_or_padded l n k

pub bytes_padded : (l : List ℕ) (n : ℕ) → Bytes l → Bytes (l ++ replicate n 0)
bytes_padded l n b k = rw (get_or_padded l n k) (b k)

no_bytes : (l : List ℕ) → length l ≡ 0 → l ≡ []
no_bytes [] e = refl
no_bytes (x ∷ l) e = absurd (omega arith)

pub filled : (n : ℕ) (l : List ℕ) → Bytes l → length l ≡ 8 * n → (cells : List ℕ) × Holds (Cells n) (spell spell_cell) l cells
filled zero l b e = ([], record { good = (refl, tt); spelt = no_bytes l (omega arith) })
filled (suc n) l b e =
    let x = word (get_or l 0 0) (get_or l 1 0) (get_or l 2 0) (get_or l 3 0) (get_or l 4 0) (get_or l 5 0) (get_or l 6 0) (get_or l 7 0) in
    let r = filled n (drop 8 l) (bytes_drop 8 l b) (simp length-drop (omega arith)) in
    let spelt = eight l 0 (omega arith) ∙ sym (spell_word _ _ _ _ _ _ _ _ (b 0) (b 1) (b 2) (b 3) (b 4) (b 5) (b 6) (b 7)) in
    let fits : x < 2 ^ 64 = omega (arith, b 0, b 1, b 2, b 3, b 4, b 5, b 6, b 7) in (
      x ∷ r.0,
      record {
        good = (ap suc r.1.good.0, (fits, r.1.good.1));
        spelt = sym (take-append-drop 8 l) ∙ ap (λ t. t ++ drop 8 l) spelt ∙ ap (λ t. spell_cell x ++ t) r.1.spelt;
      },
    )

-- fewer bytes: the first lacking
pub cells_lack : (n : ℕ) (l : List ℕ) → Bytes l → length l < 8 * n → (i : ℕ) → i ≡ length l → Lacking (Cells n) (spell spell_cell) l i
cells_lack n l b h i is =
    let m = 8 * n - length l - 1 in
    let r = filled n (l ++ replicate (suc m) 0) (bytes_padded l (suc m) b) (simp (length-append, length-replicate) (omega arith)) in
    record { it = r.0; good = r.1.good; byte = 0; more = replicate m 0; begun = r.1.spelt; is = is }

-- more bytes: the first left over
pub cells_over : (n : ℕ) (l : List ℕ) → Bytes l → 8 * n < length l → (i : ℕ) → i ≡ 8 * n → LeftOver (Cells n) (spell spell_cell) l i
cells_over n l b h i is =
    let long : length (take (8 * n) l) ≡ 8 * n = simp length-take (omega arith) in
    let r = filled n (take (8 * n) l) (bytes_take (8 * n) l b) long in
    record {
      it = r.0;
      good = r.1.good;
      byte = get_or l (8 * n) 0;
      more = drop (8 * n + 1) l;
      passed = sym (take-append-drop (8 * n) l) ∙ ap (λ t. t ++ drop (8 * n) l) r.1.spelt ∙ ap (λ t. spell spell_cell r.0 ++ t) (drop_more l (8 * n) 0 h);
      is = is ∙ sym long ∙ ap length r.1.spelt;
    }
