-- A walk, one cell at a time; its deepest cell, which is the depth of the term that it goes over. Assumes nothing.
use Rattle.std.proofs.Common.{◌≡◌, ℕ, zero, suc, ◌+◌, ◌<◌, ◌≤◌, max, List, [], ◌∷◌, ◌++◌, length, get_or, take, Some, None, Option, refl, ap, ◌∙◌, append_assoc, le_of_suc-le-suc, arith}
use Rattle.terms.specs.Cells.{children}
use Rattle.terms.specs.Rows.{Row, flat, width, depth, Counted}
use Rattle.terms.specs.Rows.Row.{none, node}
use Rattle.terms.specs.Layout.{Parent, onward, next, walked}
use Rattle.terms.proofs.Walks.{onward_last, onward_more, next_leaf, next_in}

-- what lies above the cell that follows the cell c
abbrev pub step : ℕ → Option (List Parent) → Option (List Parent)
step c None = None
step c (Some up) = next c up

pub walked_more : (u : Option (List Parent)) (cells : List ℕ) (i : ℕ) → i < length cells → walked u (take (suc i) cells) ≡ step (get_or cells i 0) (walked u (take i cells))
walked_more u [] i h = absurd (omega arith)
walked_more None (c ∷ cells) zero h = refl
walked_more (Some up) (c ∷ cells) zero h = refl
walked_more None (c ∷ cells) (suc i) h = refl
walked_more (Some up) (c ∷ cells) (suc i) h = walked_more (next c up) cells i (le_of_suc-le-suc h)

-- the most cells on a way down to a cell of the walk, that cell among them
abbrev pub peak : Option (List Parent) → List ℕ → ℕ
peak up [] = 0
peak None (c ∷ cells) = 0
peak (Some up) (c ∷ cells) = max (suc (length up)) (peak (next c up) cells)

-- the cells on the way down to a cell with these above it
abbrev pub long : Option (List Parent) → ℕ
long None = 0
long (Some up) = suc (length up)

pub peak_more : (u : Option (List Parent)) (cells : List ℕ) (i : ℕ) → i < length cells → peak u (take (suc i) cells) ≡ max (peak u (take i cells)) (long (walked u (take i cells)))
peak_more u [] i h = absurd (omega arith)
peak_more None (c ∷ cells) zero h = refl
peak_more (Some up) (c ∷ cells) zero h = omega arith
peak_more None (c ∷ cells) (suc i) h = refl
peak_more (Some up) (c ∷ cells) (suc i) h = let e = peak_more (next c up) cells i (le_of_suc-le-suc h) in omega (arith, e)

-- over a row of children, and what follows it
after_peak : (r : Row) (rest : List ℕ) (p : Parent) (up : List Parent) (m : ℕ) → suc (length up) ≤ m → p.child + suc (width r) ≡ children p.cell → (1 ≤ width r → peak (Some (record { cell = p.cell; child = p.child + 1 } ∷ up)) (flat r ++ rest) ≡ max (suc (length up) + depth r) (peak (onward up) rest)) → max m (peak (onward (p ∷ up)) (flat r ++ rest)) ≡ max (max m (suc (length up) + depth r)) (peak (onward up) rest)
after_peak none rest p up m l k ih =
    let e = ap (λ u. peak u rest) (onward_last p up (omega arith)) in
    omega (arith, e)
after_peak (node c ks r) rest p up m l k ih =
    let e = ap (λ u. peak u (flat (node c ks r) ++ rest)) (onward_more p up (omega arith)) ∙ ih (omega arith) in
    omega (arith, e)

below_peak : (ks : Row) (c : ℕ) (up : List Parent) (xs : List ℕ) → children c ≡ width ks → (1 ≤ width ks → peak (Some (record { cell = c; child = 0 } ∷ up)) (flat ks ++ xs) ≡ max (suc (length up) + depth ks) (peak (onward up) xs)) → max (suc (length up)) (peak (next c up) (flat ks ++ xs)) ≡ max (suc (length up) + depth ks) (peak (onward up) xs)
below_peak none c up xs k ih = let e = ap (λ u. peak u xs) (next_leaf c up k) in omega (arith, e)
below_peak (node b js r) c up xs k ih =
    let e = ap (λ u. peak u (flat (node b js r) ++ xs)) (next_in c up (omega arith)) ∙ ih (omega arith) in
    omega (arith, e)

row_peak : (r : Row) (rest : List ℕ) (p : Parent) (up : List Parent) → Counted r → p.child + width r ≡ children p.cell → 1 ≤ width r → peak (Some (p ∷ up)) (flat r ++ rest) ≡ max (suc (length up) + depth r) (peak (onward up) rest)
row_peak none rest p up g k w = absurd (omega arith)
row_peak (node c ks r) rest p up g k w =
    let e = ap (λ l. max (suc (suc (length up))) (peak (next c (p ∷ up)) l)) (append_assoc (flat ks) (flat r) rest) in
    let b = below_peak ks c (p ∷ up) (flat r ++ rest) g.1 (row_peak ks (flat r ++ rest) (record { cell = c; child = 0 }) (p ∷ up) g.2 (omega (arith, g.1))) in
    let a = after_peak r rest p up (suc (suc (length up)) + depth ks) (omega arith) k (row_peak r rest (record { cell = p.cell; child = p.child + 1 }) up g.3 (omega arith)) in
    e ∙ b ∙ a ∙ ap (λ n. max n (peak (onward up) rest)) (omega arith)

-- over a whole term
pub term_peak : (t : Row) → width t ≡ 1 → Counted t → peak (Some []) (flat t) ≡ depth t
term_peak none w g = absurd (omega arith)
term_peak (node c ks (node b js r)) w g = absurd (omega arith)
term_peak (node c ks none) w g =
    below_peak ks c [] [] g.1 (row_peak ks [] (record { cell = c; child = 0 }) [] g.2 (omega (arith, g.1))) ∙ omega arith
