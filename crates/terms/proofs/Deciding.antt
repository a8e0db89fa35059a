-- A test that is true or false, and what it decides then. Assumes nothing.
use Rattle.std.proofs.Common.{◌≡◌, ℕ, Bool, true, false, ◌&&◌, List, [], ◌∷◌, Decides, refl, sym, subst, inl, inr, arith}
use Rattle.std.specs.List.{list_all}
use Rattle.terms.specs.Lists.{In}

pub holds : {P : Type 0} → P → Decides true P
holds p = (λ e. p, λ q. refl)

pub fails : {P : Type 0} → (P → ⊥) → Decides false P
fails n = (λ e. let z : ◌≡◌ {A = ℕ} 0 1 = cc e in absurd (omega arith), λ q. absurd (n q))

pub contrary : {b : Bool} → b ≡ true → b ≡ false → ⊥
contrary p q = let z : ◌≡◌ {A = ℕ} 0 1 = cc in omega arith

-- a test of each in a list
pub decides_all : {P : ℕ → Type 0} {test : ℕ → Bool} → ((x : ℕ) → Decides (test x) (P x)) → (xs : List ℕ) → Decides (list_all test xs) ((x : ℕ) → In x xs → P x)
decides_all d [] = holds (λ x h. absurd h)
decides_all {P} {test} d (y ∷ ys) = go (test y) (list_all test ys) (d y) (decides_all d ys)
  where
    go : (a b : Bool) → Decides a (P y) → Decides b ((x : ℕ) → In x ys → P x) → Decides (a && b) ((x : ℕ) → In x (y ∷ ys) → P x)
    go true true p q = holds (λ x. elim [ inl e ↦ subst P (sym e) (p.0 refl) | inr h ↦ q.0 refl x h ])
    go true false p q = fails (λ f. contrary (q.1 (λ x h. f x (inr h))) refl)
    go false b p q = fails (λ f. contrary (p.1 (f y (inl refl))) refl)
