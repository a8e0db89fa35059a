-- What a table holds after a term is put into it, and what two whole terms come to when they are compared. Assumes nothing.
use Rattle.std.proofs.Common.{◌≡◌, ℕ, zero, suc, ◌+◌, ◌-◌, ◌<◌, ◌≤◌, ◌≢◌, List, [], ◌∷◌, ◌++◌, length, take, drop, replicate, sym, refl, ap, ◌∙◌, inl, inr, append-nil, arith, length-drop, take-append-drop, drop-drop}
use Rattle.std.proofs.lemmas.Bool.{cases_lt}
use borrow.Rule.Slice.PartMut.{put_mid}
use lib.Seq.{take-append_seam, drop-append_seam}
use Rattle.std.proofs.lemmas.List.{take_all}
use Rattle.std.proofs.lemmas.Slice.Zip.{length-zip, get_or-zip}
use Rattle.std.specs.List.{zip, AllWithin, HoldsAt}
use Rattle.terms.specs.Terms.{Laid}
use Rattle.terms.proofs.Trees.{same}
use Rattle.runs.specs.Chain.{Differ}
use Rattle.runs.specs.Theorem.{laid}

pub laying : (t table u z : List ℕ) → u ≡ t → z ≡ replicate (2048 - length t) 0 → length t ≤ 2048 → put_mid (length t) (2048 - length t) (u ++ drop (length t) table) z ≡ laid t table
laying t table u z e f few =
    let k : length t + (2048 - length t) ≡ 2048 = omega arith in
    rw (e, f, take-append_seam, drop-append_seam, drop-drop, k)

-- the table's front is the term
pub front : (t table : List ℕ) → take (length t) (laid t table) ≡ t
front t table = take-append_seam t (replicate (2048 - length t) 0 ++ drop 2048 table)

-- a whole term that goes on from another ends where that ends
no_more : (a b more : List ℕ) → Laid a → Laid b → b ≡ a ++ more → more ≡ []
no_more a b more p q e =
    let k = ap (λ l. l ++ more) p.is.reads ∙ sym e ∙ sym q.is.reads ∙ sym (append-nil _) in
    (same p.tree q.tree more [] p.is.counted q.is.counted (p.is.one ∙ sym q.is.one) k).1

module _ (claim term : List ℕ) (p : Laid claim) (q : Laid term) (i : ℕ) (e : take i claim ≡ take i term) where
  -- a claim that is the term so far has a cell where the term has one
  pub goes_on : i < length term → i < length claim
  goes_on h = elim (cases_lt i (length claim)) [ inl l ↦ l | inr g ↦ absurd (short g) ]
    where
      short : length claim ≤ i → ⊥
      short g =
          let all : term ≡ claim ++ drop i term = sym (take-append-drop i term) ∙ ap (λ l. l ++ drop i term) (sym e ∙ take_all i claim g) in
          let none = ap length (no_more claim term (drop i term) p q all) in
          omega (arith, none, length-drop i term)

  -- one that is the term to its end is the term
  pub no_difference : length term ≤ i → claim ≡ term
  no_difference h =
      let all : claim ≡ term ++ drop i claim = sym (take-append-drop i claim) ∙ ap (λ l. l ++ drop i claim) (e ∙ take_all i term h) in
      all ∙ ap (λ l. term ++ l) (no_more term claim (drop i claim) q p all) ∙ append-nil term

-- as far as the pairs of two lists are equal, the lists are
zipped_same : (xs ys : List ℕ) (n : ℕ) → n ≤ length (zip xs ys) → AllWithin (λ (p : ℕ × ℕ). p.0 ≡ p.1) (zip xs ys) 0 n → take n xs ≡ take n ys
zipped_same xs ys zero h w = refl
zipped_same [] ys (suc n) h w = absurd (omega arith)
zipped_same (x ∷ xs) [] (suc n) h w = absurd (omega arith)
zipped_same (x ∷ xs) (y ∷ ys) (suc n) h w =
    let e : x ≡ y = w 0 (0, 0) (omega arith) (omega arith) in
    let r = zipped_same xs ys n (omega arith) (λ k d a b. w (suc k) d (omega arith) (omega arith)) in
    ap (λ z. z ∷ take n xs) e ∙ ap (λ l. y ∷ l) r

-- what the first pair that differs, or none, says of two whole terms
module _ (claim term : List ℕ) (p : Laid claim) (q : Laid term) where
  pub differ_at : (i : ℕ) → (i < length (zip term claim)) × HoldsAt (λ (p : ℕ × ℕ). p.0 ≢ p.1) (zip term claim) i × AllWithin (λ (p : ℕ × ℕ). p.0 ≡ p.1) (zip term claim) 0 i → Differ claim term i
  differ_at i (h, other, same) =
      let k = length-zip term claim in
      let e = get_or-zip term claim i (0, 0) (omega arith) (omega arith) in
      record {
        in_claim = omega arith;
        in_end = omega arith;
        same = sym (zipped_same term claim i (omega arith) same);
        other = λ f. other (0, 0) (ap (λ (p : ℕ × ℕ). p.0) e ∙ sym f ∙ sym (ap (λ (p : ℕ × ℕ). p.1) e));
      }

  pub none_differs : AllWithin (λ (p : ℕ × ℕ). p.0 ≡ p.1) (zip term claim) 0 (length (zip term claim)) → claim ≡ term
  none_differs same =
      let i = length (zip term claim) in
      let k = length-zip term claim in
      let e = sym (zipped_same term claim i (omega arith) same) in
      let more = goes_on claim term p q i e in
      no_difference claim term p q i e (elim (cases_lt i (length term)) [ inl l ↦ absurd (let m = more l in omega arith) | inr g ↦ g ])
