-- Counting the variables of a left side, and marking their payloads as seen. Assumes nothing.
use Rattle.std.proofs.Common.{◌≡◌, ℕ, zero, suc, ◌+◌, ◌<◌, ◌≤◌, Bool, true, false, cond, eqb, ltb, ◌≢◌, List, [], ◌∷◌, ◌++◌, length, get_or, take, drop, set, replicate, None, sym, refl, ap, ◌∙◌, append-nil, arith, length-append, length-set, take-append-drop, get_or-set_other, get_or-set_same}
use lib.ListN.{length-replicate}
use Rattle.std.proofs.lemmas.Bool.Decides.{nat_tests}
use Rattle.std.proofs.lemmas.List.{take_more}
use Rattle.terms.specs.Cells.{kind, payload}
use Rattle.terms.specs.Lists.{count}
use Rattle.lets.specs.Checks.{payloads, Numbered}
use Rattle.lets.proofs.Sides.{payloads-++}

pub count-++ : (x : ℕ) (xs ys : List ℕ) → count x (xs ++ ys) ≡ count x xs + count x ys
count-++ x [] ys = omega arith
count-++ x (y ∷ xs) ys = omega (arith, count-++ x xs ys)

-- So many variables are among the first i cells, each payload below 1,024 and seen once, and no other is seen.
pub record Seen (cells : List ℕ) (i n : ℕ) (seen : List Bool) : Type 0 where
  pub long : length seen ≡ 1024
  pub counted : n ≡ length (payloads (take i cells))
  pub few : n ≤ i
  pub marks : (x : ℕ) → x < 1024 → count x (payloads (take i cells)) ≡ cond (get_or seen x false) 1 0
  pub low : (x : ℕ) → 1024 ≤ x → count x (payloads (take i cells)) ≡ 0

payloads_next : (cells : List ℕ) (i : ℕ) → i < length cells → payloads (take (i + 1) cells) ≡ payloads (take i cells) ++ payloads (get_or cells i 0 ∷ [])
payloads_next cells i h = ap payloads (take_more cells i 0 h) ∙ payloads-++ (take i cells) (get_or cells i 0 ∷ [])

-- a cell that is no variable
pub seen_other : (cells : List ℕ) (i n : ℕ) (seen : List Bool) → i < length cells → kind (get_or cells i 0) ≢ 0 → Seen cells i n seen → Seen cells (i + 1) n seen
seen_other cells i n seen h k s =
    let none_more : payloads (get_or cells i 0 ∷ []) ≡ [] =
    (let b : eqb (kind (get_or cells i 0)) 0 ≡ false = grind (arith, nat_tests) in ap (λ v. cond v (payload (get_or cells i 0) ∷ []) []) b) in
    let e : payloads (take (i + 1) cells) ≡ payloads (take i cells) =
    payloads_next cells i h ∙ ap (λ l. payloads (take i cells) ++ l) none_more ∙ append-nil (payloads (take i cells)) in
    record {
      long = s.long;
      counted = s.counted ∙ ap length (sym e);
      few = omega (arith, s.few);
      marks = λ x l. ap (count x) e ∙ s.marks x l;
      low = λ x l. ap (count x) e ∙ s.low x l;
    }

variable_more : (cells : List ℕ) (i : ℕ) → i < length cells → kind (get_or cells i 0) ≡ 0 → payloads (take (i + 1) cells) ≡ payloads (take i cells) ++ payload (get_or cells i 0) ∷ []
variable_more cells i h k =
    let b : eqb (kind (get_or cells i 0)) 0 ≡ true = grind (arith, nat_tests) in
    payloads_next cells i h ∙ ap (λ v. payloads (take i cells) ++ cond v (payload (get_or cells i 0) ∷ []) []) b

-- 1 for yes
abbrev one_if : Bool → ℕ
one_if b = cond b 1 0

-- a variable not seen before
module _ (cells : List ℕ) (i n x : ℕ) (seen : List Bool) (h : i < length cells) (k : kind (get_or cells i 0) ≡ 0) (p : x ≡ payload (get_or cells i 0)) (s : Seen cells i n seen) where
  counts : (y : ℕ) → count y (payloads (take (i + 1) cells)) ≡ count y (payloads (take i cells)) + one_if (eqb y x)
  counts y =
      let e = ap (count y) (variable_more cells i h k) ∙ count-++ y (payloads (take i cells)) (payload (get_or cells i 0) ∷ []) in
      let q : one_if (eqb y (payload (get_or cells i 0))) ≡ one_if (eqb y x) = ap (λ z. one_if (eqb y z)) (sym p) in
      omega (arith, e, q)

  pub seen_more : x < 1024 → get_or seen x false ≡ false → Seen cells (i + 1) (n + 1) (set seen x true)
  seen_more l f =
      record {
        long = length-set seen x true ∙ s.long;
        counted = omega (arith, ap length (variable_more cells i h k), length-append (payloads (take i cells)) (payload (get_or cells i 0) ∷ []), s.counted);
        few = omega (arith, s.few);
        marks = λ y m. go y m (eqb y x) refl;
        low = λ y m. let q : eqb y x ≡ false = grind (arith, nat_tests) in let v = ap one_if q in omega (arith, counts y, s.low y m, v);
      }
    where
      go : (y : ℕ) → y < 1024 → (b : Bool) → eqb y x ≡ b → count y (payloads (take (i + 1) cells)) ≡ one_if (get_or (set seen x true) y false)
      go y m true q =
          let same : y ≡ x = grind (arith, nat_tests) in
          let w : x < length seen = omega (arith, s.long) in
          let new : get_or (set seen x true) y false ≡ true = ap (λ z. get_or (set seen x true) z false) same ∙ get_or-set_same seen x true false w in
          let old : get_or seen y false ≡ false = ap (λ z. get_or seen z false) same ∙ f in
          omega (arith, counts y, s.marks y m, ap one_if q, ap one_if new, ap one_if old)
      go y m false q =
          let other : y ≢ x = grind (arith, nat_tests) in
          let kept : get_or (set seen x true) y false ≡ get_or seen y false = get_or-set_other seen x y true false other in
          omega (arith, counts y, s.marks y m, ap one_if q, ap one_if kept)

  -- what is counted so far is counted in all
  at_least : (y : ℕ) → count y (payloads (take (i + 1) cells)) ≤ count y (payloads cells)
  at_least y =
      let e : payloads cells ≡ payloads (take (i + 1) cells) ++ payloads (drop (i + 1) cells) = ap payloads (sym (take-append-drop (i + 1) cells)) ∙ payloads-++ (take (i + 1) cells) (drop (i + 1) cells) in
      omega (arith, ap (count y) e, count-++ y (payloads (take (i + 1) cells)) (payloads (drop (i + 1) cells)))

  -- a payload out of range, or seen before
  pub not_low : 1024 ≤ x → Numbered cells None
  not_low l few once =
      let q : eqb x x ≡ true = grind (arith, nat_tests) in
      let z : ltb x (length (payloads cells)) ≡ false = grind (arith, nat_tests) in
      omega (arith, counts x, at_least x, once x, ap one_if q, ap one_if z)

  pub not_new : x < 1024 → get_or seen x false ≡ true → Numbered cells None
  not_new l f few once =
      let q : eqb x x ≡ true = grind (arith, nat_tests) in
      let m : one_if (ltb x (length (payloads cells))) ≤ 1 = small (ltb x (length (payloads cells))) in
      omega (arith, counts x, at_least x, once x, s.marks x l, ap one_if q, ap one_if f, m)
    where
      small : (b : Bool) → one_if b ≤ 1
      small true = omega arith
      small false = omega arith

-- nothing is seen yet
pub seen_none : (cells : List ℕ) → Seen cells 0 0 (replicate 1024 false)
seen_none cells =
    record {
      long = length-replicate 1024 false;
      counted = refl;
      few = omega arith;
      marks = λ x l. ap one_if (sym (unseen 1024 x));
      low = λ x l. refl;
    }
  where
    unseen : (m x : ℕ) → get_or (replicate m false) x false ≡ false
    unseen zero x = refl
    unseen (suc m) zero = refl
    unseen (suc m) (suc x) = unseen m x
