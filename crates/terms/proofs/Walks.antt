-- A term that keeps the layout has no wrong cell. Assumes nothing.
use Rattle.std.proofs.Common.{◌≡◌, ℕ, zero, suc, ◌+◌, ◌-◌, ◌<◌, ◌≤◌, Bool, true, false, cond, eqb, ltb, List, [], ◌∷◌, ◌++◌, length, get_or, take, Some, None, Option, sym, refl, ap, ◌∙◌, subst, append_assoc, le_of_suc-le-suc, arith}
use Rattle.std.proofs.lemmas.Bool.Decides.{nat_tests}
use Rattle.terms.specs.Cells.{binder, children, payload, loose, Variable, Fields}
use Rattle.terms.specs.Lists.{All}
use Rattle.terms.specs.Rows.{Row, flat, width, depth, above, own, frees, Counted, Fielded}
use Rattle.terms.specs.Rows.Row.{none, node}
use Rattle.terms.specs.Terms.{Laid}
use Rattle.terms.specs.Layout.{Parent, onward, next, walked, parents, binders, Wrong, fields, far, deep, many, past}

-- a cell with these above it is not wrong
pub record Sound (up : List Parent) (c : ℕ) : Type 0 where
  pub fine : Fields c
  pub high : length up < 256
  pub near : Variable c → payload c < binders up + 1024

-- and so for all cells of a walk
abbrev pub Sane : Option (List Parent) → List ℕ → Type 0
Sane up [] = Unit {0}
Sane None (c ∷ cells) = ⊥
Sane (Some up) (c ∷ cells) = Sound up c × Sane (next c up) cells

all_left : (P : ℕ → Type 0) (xs ys : List ℕ) → All P (xs ++ ys) → All P xs
all_left P [] ys h = tt
all_left P (x ∷ xs) ys h = (h.0, all_left P xs ys h.1)

pub all_right : (P : ℕ → Type 0) (xs ys : List ℕ) → All P (xs ++ ys) → All P ys
all_right P [] ys h = h
all_right P (x ∷ xs) ys h = all_right P xs ys h.1

own_near : (d c : ℕ) → All (λ n. n < 1024) (own d c) → Variable c → payload c < d + 1024
own_near d c h v = go (loose d c) refl h
  where
    go : (t : Bool) → loose d c ≡ t → All (λ n. n < 1024) (cond t ((payload c - d) ∷ []) []) → payload c < d + 1024
    go true e k = let l = k.0 in omega arith
    go false e k = grind (arith, nat_tests)

-- the binders above the first tree of a row of children
pub above_binders : (p : Parent) (up : List Parent) (r : Row) → p.child + suc (width r) ≡ children p.cell → above (binders up) (binder p.cell) r ≡ binders (p ∷ up)
above_binders p up none h =
    let e : eqb (p.child + 1) (children p.cell) ≡ true = grind (arith, nat_tests) in
    let f = ap (λ t. cond t (binder p.cell) 0 + binders up) e in
    omega (arith, f)
above_binders p up (node c ks r) h =
    let e : eqb (p.child + 1) (children p.cell) ≡ false = grind (arith, nat_tests) in
    let f = ap (λ t. cond t (binder p.cell) 0 + binders up) e in
    omega (arith, f)

pub onward_last : (p : Parent) (up : List Parent) → p.child + 1 ≡ children p.cell → onward (p ∷ up) ≡ onward up
onward_last p up h =
    let e : ltb (p.child + 1) (children p.cell) ≡ false = grind (arith, nat_tests) in
    ap (λ t. cond t (Some (record { cell = p.cell; child = p.child + 1 } ∷ up)) (onward up)) e

pub onward_more : (p : Parent) (up : List Parent) → p.child + 1 < children p.cell → onward (p ∷ up) ≡ Some (record { cell = p.cell; child = p.child + 1 } ∷ up)
onward_more p up h =
    let e : ltb (p.child + 1) (children p.cell) ≡ true = grind (arith, nat_tests) in
    ap (λ t. cond t (Some (record { cell = p.cell; child = p.child + 1 } ∷ up)) (onward up)) e

pub next_leaf : (c : ℕ) (up : List Parent) → children c ≡ 0 → next c up ≡ onward up
next_leaf c up h =
    let e : eqb (children c) 0 ≡ true = grind (arith, nat_tests) in
    ap (λ t. cond t (onward up) (Some (record { cell = c; child = 0 } ∷ up))) e

pub next_in : (c : ℕ) (up : List Parent) → 1 ≤ children c → next c up ≡ Some (record { cell = c; child = 0 } ∷ up)
next_in c up h =
    let e : eqb (children c) 0 ≡ false = grind (arith, nat_tests) in
    ap (λ t. cond t (onward up) (Some (record { cell = c; child = 0 } ∷ up))) e

row_after : (r : Row) (rest : List ℕ) (p : Parent) (up : List Parent) → p.child + suc (width r) ≡ children p.cell → (1 ≤ width r → Sane (Some (record { cell = p.cell; child = p.child + 1 } ∷ up)) (flat r ++ rest)) → Sane (onward up) rest → Sane (onward (p ∷ up)) (flat r ++ rest)
row_after none rest p up k ih z = subst (λ u. Sane u rest) (sym (onward_last p up (omega arith))) z
row_after (node c ks r) rest p up k ih z =
    subst (λ u. Sane u (flat (node c ks r) ++ rest)) (sym (onward_more p up (omega arith))) (ih (omega arith))

row_below : (ks : Row) (c : ℕ) (up : List Parent) (xs : List ℕ) → children c ≡ width ks → (1 ≤ width ks → Sane (Some (record { cell = c; child = 0 } ∷ up)) (flat ks ++ xs)) → Sane (onward up) xs → Sane (next c up) (flat ks ++ xs)
row_below none c up xs k ih z = subst (λ u. Sane u xs) (sym (next_leaf c up k)) z
row_below (node b js r) c up xs k ih z =
    subst (λ u. Sane u (flat (node b js r) ++ xs)) (sym (next_in c up (omega arith))) (ih (omega arith))

-- a row of children, and what follows it
sane_row : (r : Row) (rest : List ℕ) (p : Parent) (up : List Parent) → Counted r → Fielded r → p.child + width r ≡ children p.cell → suc (length up) + depth r ≤ 256 → All (λ n. n < 1024) (frees (binders up) (binder p.cell) r) → Sane (onward up) rest → 1 ≤ width r → Sane (Some (p ∷ up)) (flat r ++ rest)
sane_row none rest p up g f k d n z w = absurd (omega arith)
sane_row (node c ks r) rest p up g f k d n z w =
    let e : above (binders up) (binder p.cell) r ≡ binders (p ∷ up) = above_binders p up r k in
    let n' = subst (λ a. All (λ n. n < 1024) (own a c ++ (frees a (binder c) ks ++ frees (binders up) (binder p.cell) r))) e n in
    let n₁ = all_right (λ n. n < 1024) (own (binders (p ∷ up)) c) _ n' in
    let sound : Sound (p ∷ up) c =
    record { fine = f.0; high = omega arith; near = own_near (binders (p ∷ up)) c (all_left (λ n. n < 1024) (own (binders (p ∷ up)) c) _ n') } in
    let after : Sane (onward (p ∷ up)) (flat r ++ rest) =
    row_after r rest p up k (sane_row r rest (record { cell = p.cell; child = p.child + 1 }) up g.3 f.2 (omega arith) (omega arith) (all_right (λ n. n < 1024) (frees (binders (p ∷ up)) (binder c) ks) _ n₁) z) z in
    let below : Sane (next c (p ∷ up)) (flat ks ++ (flat r ++ rest)) =
    row_below ks c (p ∷ up) (flat r ++ rest) g.1 (sane_row ks (flat r ++ rest) (record { cell = c; child = 0 }) (p ∷ up) g.2 f.1 (omega (arith, g.1)) (omega arith) (all_left (λ n. n < 1024) (frees (binders (p ∷ up)) (binder c) ks) _ n₁) after) after in
    (sound, subst (Sane (next c (p ∷ up))) (sym (append_assoc (flat ks) (flat r) rest)) below)

-- a whole term
sane_term : (t : Row) → width t ≡ 1 → Counted t → Fielded t → depth t ≤ 256 → All (λ n. n < 1024) (frees 0 0 t) → Sane (Some []) (flat t)
sane_term none w g f d n = absurd (omega arith)
sane_term (node c ks (node b js r)) w g f d n = absurd (omega arith)
sane_term (node c ks none) w g f d n =
    let n₁ = all_right (λ n. n < 1024) (own 0 c) _ n in
    let sound : Sound [] c = record { fine = f.0; high = omega arith; near = own_near 0 c (all_left (λ n. n < 1024) (own 0 c) _ n) } in
    (sound, row_below ks c [] [] g.1 (sane_row ks [] (record { cell = c; child = 0 }) [] g.2 f.1 (omega (arith, g.1)) (omega arith) (all_left (λ n. n < 1024) (frees 0 (binder c) ks) _ n₁) tt) tt)

-- each cell of a sane walk is sound
pub sane_at : (up : Option (List Parent)) (cells : List ℕ) (i : ℕ) → i < length cells → Sane up cells → (over : List Parent) × (walked up (take i cells) ≡ Some over) × Sound over (get_or cells i 0)
sane_at up [] i h s = absurd (omega arith)
sane_at None (c ∷ cells) i h s = absurd s
sane_at (Some up) (c ∷ cells) zero h s = (up, refl, s.0)
sane_at (Some up) (c ∷ cells) (suc i) h s = sane_at (next c up) cells i (le_of_suc-le-suc h) s.1

abbrev pub IsNone : Option (List Parent) → Type 0
IsNone None = Unit {0}
IsNone (Some up) = ⊥

abbrev inside : List Parent → Option (List Parent) → List Parent
inside d None = d
inside d (Some up) = up

pub not_wrong : (cells : List ℕ) (i : ℕ) (over : List Parent) → i < 2048 → parents cells i ≡ Some over → Sound over (get_or cells i 0) → Wrong cells i → ⊥
not_wrong cells i over l e s (fields h) = h s.fine
not_wrong cells i over l e s (far up q v h) =
    let same : up ≡ over = ap (inside over) (sym q ∙ e) in
    let b = ap binders same in
    omega (arith, b, s.near v)
not_wrong cells i over l e s (deep up q h) =
    let same : up ≡ over = ap (inside over) (sym q ∙ e) in
    let b = ap length same in
    omega (arith, b, s.high)
not_wrong cells i over l e s (many h) = omega (arith, h)
not_wrong cells i over l e s (past q) = subst IsNone (sym q ∙ e) tt

-- A term that keeps the layout has no wrong cell: the first wrong cell breaks it.
pub laid_right : (cells : List ℕ) (i : ℕ) → Laid cells → i < length cells → Wrong cells i → ⊥
laid_right cells i lay h =
    let s = subst (Sane (Some [])) lay.is.reads (sane_term lay.tree lay.is.one lay.is.counted lay.formed lay.shallow lay.near) in
    let a = sane_at (Some []) cells i h s in
    not_wrong cells i a.0 (omega (arith, lay.few)) a.1 a.2
