-- What is in a list stands at one of its numbers, and the other way round. Assumes nothing.
use Rattle.std.proofs.Common.{◌≡◌, ℕ, zero, suc, ◌<◌, List, [], ◌∷◌, ◌++◌, length, get_or, sym, refl, subst, inl, inr, arith}
use Rattle.terms.specs.Lists.{In, All}

pub in_at : (x : ℕ) (xs : List ℕ) → In x xs → (k : ℕ) × (k < length xs) × (x ≡ get_or xs k 0)
in_at x [] h = absurd h
in_at x (y ∷ xs) (inl e) = (0, omega arith, e)
in_at x (y ∷ xs) (inr h) = let q = in_at x xs h in (suc q.0, omega (arith, q.1), q.2)

pub at_in : (xs : List ℕ) (k : ℕ) → k < length xs → In (get_or xs k 0) xs
at_in [] k h = absurd (omega arith)
at_in (y ∷ xs) zero h = inl refl
at_in (y ∷ xs) (suc k) h = inr (at_in xs k (omega arith))

-- what holds of each entry by its number holds of each that is in the list
pub in_each : (P : ℕ → Type 0) (xs : List ℕ) → ((k : ℕ) → k < length xs → P (get_or xs k 0)) → (x : ℕ) → In x xs → P x
in_each P xs f x h = let q = in_at x xs h in subst P (sym q.2) (f q.0 q.1)

-- the same of the lists all whose entries are so
pub all_each : (P : ℕ → Type 0) (xs : List ℕ) → ((k : ℕ) → k < length xs → P (get_or xs k 0)) → All P xs
all_each P [] f = tt
all_each P (x ∷ xs) f = (f 0 (omega arith), all_each P xs (λ k h. f (suc k) (omega arith)))

pub each_all : (P : ℕ → Type 0) (xs : List ℕ) (k : ℕ) → All P xs → k < length xs → P (get_or xs k 0)
each_all P [] k a h = absurd (omega arith)
each_all P (x ∷ xs) zero a h = a.0
each_all P (x ∷ xs) (suc k) a h = each_all P xs k a.1 (omega arith)

pub all-++ : (P : ℕ → Type 0) (xs ys : List ℕ) → All P xs → All P ys → All P (xs ++ ys)
all-++ P [] ys a b = b
all-++ P (x ∷ xs) ys a b = (a.0, all-++ P xs ys a.1 b)

pub all_apart : (P : ℕ → Type 0) (xs ys : List ℕ) → All P (xs ++ ys) → All P xs × All P ys
all_apart P [] ys h = (tt, h)
all_apart P (x ∷ xs) ys h = let q = all_apart P xs ys h.1 in ((h.0, q.0), q.1)
