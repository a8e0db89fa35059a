-- Bytes are read in one way, and one byte is told. Assumes nothing.
use Rattle.std.proofs.Common.{◌≡◌, ℕ, zero, suc, ◌/◌, ◌%◌, ◌^◌, List, [], ◌∷◌, ◌++◌, length, sym, refl, ap, ◌∙◌, subst, inl, inr, append_assoc, append-nil, arith}
use Rattle.terms.specs.Lists.{All}
use Rattle.cell_bytes.specs.Spelling.{spell_cell, spell}
use Rattle.cell_bytes.specs.Holding.{Holds, Lacking, LeftOver, Amiss, Cell, Cells}

-- what is spelt ends by itself
abbrev pub Delimited : {A : Type 0} → (A → Type 0) → (A → List ℕ) → Type 0
Delimited {A} P f = (x y : A) (a b : List ℕ) → P x → P y → f x ++ a ≡ f y ++ b → (x ≡ y) × (a ≡ b)

abbrev IsNil : List ℕ → Type 0
IsNil [] = Unit {0}
IsNil (x ∷ xs) = ⊥

not_nil : (xs ys : List ℕ) (b : ℕ) → xs ++ (b ∷ ys) ≡ [] → ⊥
not_nil [] ys b e = subst IsNil (sym e) tt
not_nil (x ∷ xs) ys b e = subst IsNil (sym e) tt

module _ {A : Type 0} (P : A → Type 0) (f : A → List ℕ) (ends : Delimited P f) where
  pub one_held : (bytes : List ℕ) (x y : A) → Holds P f bytes x → Holds P f bytes y → x ≡ y
  one_held bytes x y a b =
      (ends x y [] [] a.good b.good (append-nil (f x) ∙ sym a.spelt ∙ b.spelt ∙ sym (append-nil (f y)))).0

  pub not_amiss : (bytes : List ℕ) (x : A) (i : ℕ) → Holds P f bytes x → Amiss P f bytes i → ⊥
  not_amiss bytes x i a (inl b) =
      let e = ends x b.it (b.byte ∷ b.more) [] a.good b.good (ap (λ l. l ++ (b.byte ∷ b.more)) (sym a.spelt) ∙ b.begun ∙ sym (append-nil (f b.it))) in
      not_nil [] b.more b.byte e.1
  not_amiss bytes x i a (inr b) =
      let e = ends b.it x (b.byte ∷ b.more) [] b.good a.good (sym b.passed ∙ a.spelt ∙ sym (append-nil (f x))) in
      not_nil [] b.more b.byte e.1

  not_both : (bytes : List ℕ) (i j : ℕ) → Lacking P f bytes i → LeftOver P f bytes j → ⊥
  not_both bytes i j a b =
      let e = ends b.it a.it ((b.byte ∷ b.more) ++ (a.byte ∷ a.more)) [] b.good a.good (sym (append_assoc (f b.it) (b.byte ∷ b.more) (a.byte ∷ a.more)) ∙ ap (λ l. l ++ (a.byte ∷ a.more)) (sym b.passed) ∙ a.begun ∙ sym (append-nil (f a.it))) in
      not_nil (b.byte ∷ b.more) a.more a.byte e.1

  pub one_amiss : (bytes : List ℕ) (i j : ℕ) → Amiss P f bytes i → Amiss P f bytes j → i ≡ j
  one_amiss bytes i j (inl a) (inl b) = a.is ∙ sym b.is
  one_amiss bytes i j (inl a) (inr b) = absurd (not_both bytes i j a b)
  one_amiss bytes i j (inr a) (inl b) = absurd (not_both bytes j i b a)
  one_amiss bytes i j (inr a) (inr b) =
      let e = ends a.it b.it (a.byte ∷ a.more) (b.byte ∷ b.more) a.good b.good (sym a.passed ∙ b.passed) in
      a.is ∙ ap (λ x. length (f x)) e.0 ∙ sym b.is

-- so many items, one after the other
pub many_end : {A : Type 0} (P : A → Type 0) (f : A → List ℕ) (n : ℕ) → Delimited P f → Delimited (λ (xs : List A). (length xs ≡ n) × All P xs) (spell f)
many_end P f n ends [] [] a b p q e = (refl, e)
many_end P f n ends [] (y ∷ ys) a b p q e = absurd (omega (arith, p.0, q.0))
many_end P f n ends (x ∷ xs) [] a b p q e = absurd (omega (arith, p.0, q.0))
many_end P f zero ends (x ∷ xs) (y ∷ ys) a b p q e = absurd (omega (arith, p.0))
many_end P f (suc n) ends (x ∷ xs) (y ∷ ys) a b p q e =
    let h = ends x y (spell f xs ++ a) (spell f ys ++ b) p.1.0 q.1.0 (sym (append_assoc (f x) (spell f xs) a) ∙ e ∙ append_assoc (f y) (spell f ys) b) in
    let t = many_end P f n ends xs ys a b (omega (arith, p.0), p.1.1) (omega (arith, q.0), q.1.1) h.1 in
    (cc (h.0, t.0), t.1)

-- a number is known by its bytes
pub by_bytes : (c d : ℕ) → c / 2 ^ 8 ≡ d / 2 ^ 8 → c % 256 ≡ d % 256 → c ≡ d
by_bytes c d e f = omega arith

over_48 : (c : ℕ) → c / 2 ^ 48 / 2 ^ 8 ≡ c / 2 ^ 56
over_48 c = omega arith

over_40 : (c : ℕ) → c / 2 ^ 40 / 2 ^ 8 ≡ c / 2 ^ 48
over_40 c = omega arith

over_32 : (c : ℕ) → c / 2 ^ 32 / 2 ^ 8 ≡ c / 2 ^ 40
over_32 c = omega arith

over_24 : (c : ℕ) → c / 2 ^ 24 / 2 ^ 8 ≡ c / 2 ^ 32
over_24 c = omega arith

pub over_16 : (c : ℕ) → c / 2 ^ 16 / 2 ^ 8 ≡ c / 2 ^ 24
over_16 c = omega arith

pub over_8 : (c : ℕ) → c / 2 ^ 8 / 2 ^ 8 ≡ c / 2 ^ 16
over_8 c = omega arith

pub cell_ends : Delimited Cell spell_cell
cell_ends c d a b p q e =
    let e₇ : c / 2 ^ 56 ≡ d / 2 ^ 56 = cc e in
    let e₆ : c / 2 ^ 48 % 256 ≡ d / 2 ^ 48 % 256 = cc e in
    let e₅ : c / 2 ^ 40 % 256 ≡ d / 2 ^ 40 % 256 = cc e in
    let e₄ : c / 2 ^ 32 % 256 ≡ d / 2 ^ 32 % 256 = cc e in
    let e₃ : c / 2 ^ 24 % 256 ≡ d / 2 ^ 24 % 256 = cc e in
    let e₂ : c / 2 ^ 16 % 256 ≡ d / 2 ^ 16 % 256 = cc e in
    let e₁ : c / 2 ^ 8 % 256 ≡ d / 2 ^ 8 % 256 = cc e in
    let e₀ : c % 256 ≡ d % 256 = cc e in
    let rest : a ≡ b = cc e in
    let f₆ : c / 2 ^ 48 ≡ d / 2 ^ 48 = by_bytes (c / 2 ^ 48) (d / 2 ^ 48) (over_48 c ∙ e₇ ∙ sym (over_48 d)) e₆ in
    let f₅ : c / 2 ^ 40 ≡ d / 2 ^ 40 = by_bytes (c / 2 ^ 40) (d / 2 ^ 40) (over_40 c ∙ f₆ ∙ sym (over_40 d)) e₅ in
    let f₄ : c / 2 ^ 32 ≡ d / 2 ^ 32 = by_bytes (c / 2 ^ 32) (d / 2 ^ 32) (over_32 c ∙ f₅ ∙ sym (over_32 d)) e₄ in
    let f₃ : c / 2 ^ 24 ≡ d / 2 ^ 24 = by_bytes (c / 2 ^ 24) (d / 2 ^ 24) (over_24 c ∙ f₄ ∙ sym (over_24 d)) e₃ in
    let f₂ : c / 2 ^ 16 ≡ d / 2 ^ 16 = by_bytes (c / 2 ^ 16) (d / 2 ^ 16) (over_16 c ∙ f₃ ∙ sym (over_16 d)) e₂ in
    let f₁ : c / 2 ^ 8 ≡ d / 2 ^ 8 = by_bytes (c / 2 ^ 8) (d / 2 ^ 8) (over_8 c ∙ f₂ ∙ sym (over_8 d)) e₁ in
    (by_bytes c d f₁ e₀, rest)

pub cells_end : (n : ℕ) → Delimited (Cells n) (spell spell_cell)
cells_end n = many_end Cell spell_cell n cell_ends
