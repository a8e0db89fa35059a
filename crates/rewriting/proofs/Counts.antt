-- Numbers that stand once in a list. Assumes nothing.
use Rattle.std.proofs.Common.{◌≡◌, ℕ, ◌<◌, ◌≤◌, Bool, true, false, cond, eqb, ltb, List, [], ◌∷◌, ◌++◌, length, ap, inl, inr, arith}
use Rattle.std.proofs.lemmas.Bool.Decides.{nat_tests}
use Rattle.terms.specs.Lists.{In, count}
use Rattle.lets.specs.Checks.{EachOnce}
use Rattle.lets.proofs.Unique.{count_in}
use Rattle.lets.proofs.Countings.{count-++}

abbrev one_if : Bool → ℕ
one_if b = cond b 1 0

pub in_count : (x : ℕ) (l : List ℕ) → In x l → 1 ≤ count x l
in_count x [] h = absurd h
in_count x (y ∷ l) (inl e) = let q : eqb x y ≡ true = grind (arith, nat_tests) in omega (arith, ap one_if q)
in_count x (y ∷ l) (inr h) = omega (arith, in_count x l h)

pub once_below : (x : ℕ) (l : List ℕ) → EachOnce l → In x l → x < length l
once_below x l o h = let k = in_count x l h in let e = o x in grind (arith, nat_tests)

pub below_once : (x : ℕ) (l : List ℕ) → EachOnce l → x < length l → In x l
below_once x l o h = let e = o x in let k : 1 ≤ count x l = grind (arith, nat_tests) in count_in x l k

-- a number that stands once is not before its place
pub once_before : (x : ℕ) (l m : List ℕ) → EachOnce (l ++ x ∷ m) → In x l → ⊥
once_before x l m o h =
    let k = in_count x l h in
    let e = o x in
    let n = count-++ x l (x ∷ m) in
    let q : eqb x x ≡ true = grind (arith, nat_tests) in
    let w = ap one_if q in
    let most : cond (ltb x (length (l ++ x ∷ m))) 1 0 ≤ 1 = one (ltb x (length (l ++ x ∷ m))) in
    omega arith
  where
    one : (b : Bool) → cond b 1 0 ≤ 1
    one true = omega arith
    one false = omega arith
