-- What the words of a line write. Assumes nothing.
use Rattle.std.proofs.Common.{◌≡◌, ℕ, ◌+◌, ◌-◌, ◌^◌, ◌<◌, ◌≢◌, inr, false, cond, List, [], ◌∷◌, ◌++◌, length, get_or, take, drop, map, sym, ap, ◌∙◌, subst, arith, append-nil, append_assoc, length-append, Result, Ok, Err, IsErr, length-drop, below_more}
use Rattle.std.specs.Result.{OkIff}
use Rattle.std.specs.Str.Parse.{IsNumeral, digits_value, without_leading_plus}
use Rattle.std.proofs.lemmas.Int.Digits.{digits_value-lt}
use Rattle.std.proofs.lemmas.List.{map_more, get_or_default}
use Rattle.std.proofs.Math.Seq.{take-length}
use Rattle.std.proofs.lemmas.Bool.Decides.{nat_tests}
use Rattle.script.specs.Part.{behind, Puts}
use Rattle.script.specs.Words.{IsCell, IsNumber, number_of, is_root, parts_of, IsPlace, entries_of, ReadsIf}
use Rattle.script.specs.declared.fault.Bad.{Bad}
use Rattle.script.specs.declared.part.Part.{Part}

-- an error is right where the text is bad
pub refused : {T E : Type 0} (r : Result T E) {P : Type 0} (v : T) → IsErr r → ¬ P → OkIff r P v
refused (Ok x) v e n = absurd (cc e)
refused (Err x) v e n = n

pub bad_text : {T : Type 0} (r : Result T Bad) {P : Type 0} (Q : T → Type 0) → IsErr r → ¬ P → ReadsIf r P Q
bad_text (Ok x) Q e n = absurd (cc e)
bad_text (Err x) Q e n = inr n

plain : (w : List ℕ) → get_or w 0 0 ≢ 43 → without_leading_plus w ≡ w
plain w h = grind (arith, nat_tests)

-- 16 hexadecimal digits fit 64 bits, so that what reads no number of these reads no cell
pub not_cell : (w : List ℕ) → get_or w 0 0 ≢ 43 → ¬ (IsNumeral 16 (without_leading_plus w) × (digits_value 16 (without_leading_plus w) < 2 ^ 64)) → ¬ IsCell w
not_cell w h n cell =
    let fits : digits_value 16 w < 2 ^ 64 = subst (λ k. digits_value 16 w < 16 ^ k) cell.0 (digits_value-lt 16 w cell.1) in
    n (subst (λ t. IsNumeral 16 t × (digits_value 16 t < 2 ^ 64)) (sym (plain w h)) ((omega arith, cell.1), fits))

-- the part from the end of a list before more was put behind it to its end then
pub put_behind : (before more all : List ℕ) (start end : ℕ) → all ≡ before ++ more → start ≡ length before → end ≡ length all → ◌≡◌ {A = Part} (record { start = start; end = end }) (behind before more)
put_behind before more all start end e s t =
    let n : end ≡ length before + length more = t ∙ ap length e ∙ length-append before more in cc

-- what a pattern calls the rest
pub rest : {A : Type 0} (l : List A) (k : ℕ) → take (length l - k) (drop k l) ≡ drop k l
rest l k = subst (λ n. take n (drop k l) ≡ drop k l) (length-drop k l) (take-length (drop k l))

-- the first n parts are numbers, and these lie behind the entries before
pub record ReadTo (parts : List (List ℕ)) (n : ℕ) (before entries : List ℕ) : Type 0 where
  pub good : (k : ℕ) (d : List ℕ) → k < n → IsNumber 255 (get_or parts k d)
  pub read : entries ≡ before ++ map number_of (take n parts)

pub none_read : (parts : List (List ℕ)) (before : List ℕ) → ReadTo parts 0 before before
none_read parts before = record { good = λ k d h. absurd (omega arith); read = sym (append-nil before) }

pub one_read : (parts : List (List ℕ)) (n m : ℕ) (before entries more x : List ℕ) (y : ℕ) → ReadTo parts n before entries → (n < length parts) × (x ≡ get_or parts n x) → IsNumber 255 x → m ≡ n + 1 → more ≡ entries ++ y ∷ [] → y ≡ number_of x → ReadTo parts m before more
one_read parts n m before entries more x y r h i e f g = record {
  good = λ k d l. below_more (λ k. IsNumber 255 (get_or parts k d)) n (λ k. r.good k d) (subst (IsNumber 255) (h.1 ∙ get_or_default parts n x d h.0) i) k (omega arith);
  read = f ∙ ap (λ l. l ++ y ∷ []) r.read ∙ append_assoc before (map number_of (take n parts)) (y ∷ []) ∙ ap (λ z. before ++ (map number_of (take n parts) ++ z ∷ [])) (g ∙ ap number_of h.1)
      ∙ ap (λ l. before ++ l) (sym (map_more number_of parts n x h.0) ∙ ap (λ k. map number_of (take k parts)) (sym e));
}

-- all parts are read
pub all_read : (text before entries : List ℕ) (start end : ℕ) → is_root text ≡ false → ReadTo (parts_of text) (length (parts_of text)) before entries → start ≡ length before → end ≡ length entries
    → IsPlace text × Puts (entries_of text) before entries (record { start = start; end = end })
all_read text before entries start end f r s t =
    let e : entries ≡ before ++ entries_of text = r.read ∙ ap (λ l. before ++ map number_of l) (take-length (parts_of text)) ∙ ap (λ b. before ++ cond b [] (map number_of (parts_of text))) (sym f) in
    ((λ f k d h. r.good k d h), (e, put_behind before (entries_of text) entries start end e s t))

-- a part is bad
pub not_place : (text : List ℕ) (n : ℕ) (x : List ℕ) → is_root text ≡ false → (n < length (parts_of text)) × (x ≡ get_or (parts_of text) n x) → ¬ IsNumber 255 x → ¬ IsPlace text
not_place text n x f h bad place = bad (subst (IsNumber 255) (sym h.1) (place f n x h.0))
