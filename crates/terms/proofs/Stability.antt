-- What cannot be refuted of numbers, tests, layouts and lawful rows holds. Assumes nothing.
use Rattle.std.proofs.Common.{◌≡◌, ℕ, ◌<◌, ◌≤◌, Bool, true, false, List, [], ◌∷◌, refl, arith}
use Rattle.terms.specs.Cells.{binder, children, zeros}
use Rattle.terms.specs.Rows.{Row, size, width, depth, Formed, Layout}
use Rattle.terms.specs.Rows.Row.{none, node}
use Rattle.terms.specs.Grammar.{Lawful}

abbrev pub Stable : Type 0 → Type 0
Stable P = ((P → ⊥) → ⊥) → P

-- a part of what cannot be refuted cannot be
pub part : {P Q : Type 0} → (P → Q) → ((P → ⊥) → ⊥) → (Q → ⊥) → ⊥
part f h n = h (λ p. n (f p))

pub stable_equal : (a b : ℕ) → Stable (a ≡ b)
stable_equal a b h = let l : (a < b → ⊥) = λ k. h (λ e. omega arith) in let g : (b < a → ⊥) = λ k. h (λ e. omega arith) in omega (arith, l, g)

pub stable_most : (a b : ℕ) → Stable (a ≤ b)
stable_most a b h = let g : (b < a → ⊥) = λ k. h (λ e. omega arith) in omega (arith, g)

pub stable_below : (a b : ℕ) → Stable (a < b)
stable_below a b h = let g : (b ≤ a → ⊥) = λ k. h (λ e. omega arith) in omega (arith, g)

pub stable_true : (b : Bool) → Stable (b ≡ true)
stable_true true h = refl
stable_true false h = absurd (h (λ e. let z : ◌≡◌ {A = ℕ} 0 1 = cc e in omega arith))

pub stable_formed : (t : Row) → Stable (Formed t)
stable_formed none h = tt
stable_formed (node c ks r) h = (
  stable_below c _ (part (λ f. f.0) h),
  stable_equal (children c) (width ks) (part (λ f. f.1) h),
  stable_equal (zeros c) 0 (part (λ f. f.2) h),
  stable_most (binder c) (children c) (part (λ f. f.3) h),
  λ k. stable_below c _ (part (λ f. f.4 k) h),
  stable_formed ks (part (λ f. f.5) h),
  stable_formed r (part (λ f. f.6) h),
)

pub stable_layout : (t : Row) → Stable (Layout t)
stable_layout t h =
    record {
      single = stable_equal (width t) 1 (part (λ l. l.single) h);
      formed = stable_formed t (part (λ l. l.formed) h);
      cells = stable_most (size t) 2048 (part (λ l. l.cells) h);
      deep = stable_most (depth t) 256 (part (λ l. l.deep) h);
      low = λ x f. stable_below x 1024 (part (λ l. l.low x f) h);
    }

module _ {S : Type 0} (admits : S → ℕ → Bool) (kids : S → ℕ → List S) where
  pub stable_lawful : (ss : List S) (t : Row) → Stable (Lawful admits kids ss t)
  stable_lawful [] none h = tt
  stable_lawful [] (node c ks r) h = absurd (h (λ n. n))
  stable_lawful (s ∷ ss) none h = absurd (h (λ n. n))
  stable_lawful (s ∷ ss) (node c ks r) h =
      (stable_true (admits s c) (part (λ f. f.0) h), stable_lawful (kids s c) ks (part (λ f. f.1) h), stable_lawful ss r (part (λ f. f.2) h))
