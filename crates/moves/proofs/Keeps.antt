-- What renaming and substitution keep. Assumes nothing.
use Rattle.std.proofs.Common.{◌≡◌, ℕ, zero, suc, ◌+◌, ◌-◌, ◌^◌, ◌<◌, ◌≤◌, Bool, true, false, cond, eqb, ◌⊎◌, [], ◌∷◌, map, sym, refl, ap, ◌∙◌, subst, inl, inr, arith}
use Rattle.std.proofs.lemmas.Bool.Decides.{nat_tests}
use Rattle.std.proofs.lemmas.List.{map-append}
use Rattle.terms.specs.Cells.{kind, binder, payload, cell, loose, renumber}
use Rattle.terms.specs.Rows.{Row, size, width, depth, ◌&◌, var, above, own, frees, Free, rename, raise, down, substitute, «for», replace, instead, instantiate, Formed, Below}
use Rattle.terms.specs.Rows.Row.{none, node}
use Rattle.terms.proofs.Inject.{empty}
use Rattle.terms.proofs.Moves.{Low, rename_width, above_width, above_le, substitute_width, substitute_frees, free_var, free_word}
use Rattle.terms.proofs.Bridge.{rename_size, substitute_size}
use Rattle.moves.specs.Laws.{Small, MovesKeep}

-- a small row's variables are leaves
pub small_low : (m : ℕ) (t : Row) → Formed t → Below m t → Low m t
small_low m none g b = tt
small_low m (node c ks r) (s, n, z, bd, v, g, h) b =
    (λ k. let w = v k in let p = b.0 k in omega (arith, w, p), small_low m ks g b.1, small_low m r h b.2)

low_below : (m : ℕ) (t : Row) → m < 2 ^ 32 → Low m t → Below m t
low_below m none f l = tt
low_below m (node c ks r) f l = (λ k. let w = l.0 k in omega (arith, w), low_below m ks f l.1, low_below m r f l.2)

pub rename_depth : (f : ℕ → ℕ) (d b : ℕ) (t : Row) → depth (rename f d b t) ≡ depth t
rename_depth f d b none = refl
rename_depth f d b (node c ks r) = omega (arith, rename_depth f (above d b r) (binder c) ks, rename_depth f d b r)

rename_above : (f : ℕ → ℕ) (d b e g : ℕ) (t : Row) → above d b (rename f e g t) ≡ above d b t
rename_above f d b e g t = above_width d b (rename f e g t) t (rename_width f e g t)

-- Renaming by a function that adds at most k to a number.
module _ (f : ℕ → ℕ) (k m : ℕ) (grows : (n : ℕ) → f n ≤ n + k) (fits : m + k < 2 ^ 32) where
  -- a free variable's new cell
  fresh : (d c : ℕ) → (kind c ≡ 0 → c ≤ m) → loose d c ≡ true → (kind c ≡ 0) × (d ≤ payload c) × (c ≤ m) × (d + f (payload c - d) ≤ m + k)
  fresh d c h l =
      let z : kind c ≡ 0 = grind (arith, nat_tests) in
      let q : d ≤ payload c = grind (arith, nat_tests) in
      let w = h z in
      let g = grows (payload c - d) in
      (z, q, w, omega (arith, z, q, w, g))

  renumbered_binder : (d c : ℕ) → (kind c ≡ 0 → c ≤ m) → binder (renumber f d c) ≡ binder c
  renumbered_binder d c h = go (loose d c) refl
    where
      go : (t : Bool) → loose d c ≡ t → binder (cond t (cell 0 0 0 (d + f (payload c - d))) c) ≡ binder c
      go false l = refl
      go true l = let v = fresh d c h l in omega (arith, v.2, v.3, fits)

  renumbered_own : (d c : ℕ) → (kind c ≡ 0 → c ≤ m) → own d (renumber f d c) ≡ map f (own d c)
  renumbered_own d c h = go (loose d c) refl
    where
      go : (t : Bool) → loose d c ≡ t → own d (cond t (cell 0 0 0 (d + f (payload c - d))) c) ≡ map f (cond t ((payload c - d) ∷ []) [])
      go false l = ap (λ t. cond t ((payload c - d) ∷ []) []) l
      go true l =
          let v = fresh d c h l in
          let w = v.3 in
          let e = cell 0 0 0 (d + f (payload c - d)) in
          let p : loose d (cell 0 0 0 (d + f (payload c - d))) ≡ true = grind (arith, nat_tests, w, fits) in
          let q : payload (cell 0 0 0 (d + f (payload c - d))) - d ≡ f (payload c - d) = omega (arith, w, fits) in
          ap (λ t. cond t ((payload e - d) ∷ []) []) p ∙ ap (λ n. n ∷ []) q

  -- the free numbers of a renamed row, in their order
  pub renamed_frees : (d b : ℕ) (t : Row) → Low m t → frees d b (rename f d b t) ≡ map f (frees d b t)
  renamed_frees d b none l = refl
  renamed_frees d b (node c ks r) l =
      let a = rename_above f d b d b r in
      let g = renumbered_binder (above d b r) c l.0 in
      let o = renumbered_own (above d b r) c l.0 in
      let x = renamed_frees (above d b r) (binder c) ks l.1 in
      let y = renamed_frees d b r l.2 in
      rw (a, g, o, x, y) (simp map-append)

  renumbered_low : (d c : ℕ) → (kind c ≡ 0 → c ≤ m) → kind (renumber f d c) ≡ 0 → renumber f d c ≤ m + k
  renumbered_low d c h = go (loose d c) refl
    where
      go : (t : Bool) → loose d c ≡ t → kind (cond t (cell 0 0 0 (d + f (payload c - d))) c) ≡ 0 → cond t (cell 0 0 0 (d + f (payload c - d))) c ≤ m + k
      go false l z = let w = h z in omega (arith, w)
      go true l z = let v = fresh d c h l in omega (arith, v.3)

  pub renamed_low : (d b : ℕ) (t : Row) → Low m t → Low (m + k) (rename f d b t)
  renamed_low d b none l = tt
  renamed_low d b (node c ks r) l =
      (renumbered_low (above d b r) c l.0, renamed_low (above d b r) (binder c) ks l.1, renamed_low d b r l.2)

  pub renamed_formed : (d b : ℕ) (t : Row) → Low m t → Formed t → Formed (rename f d b t)
  renamed_formed d b none l g = tt
  renamed_formed d b (node c ks r) l (s, n, z, bd, v, g, h) =
      go (loose (above d b r) c) refl (rename_width f (above d b r) (binder c) ks) (renamed_formed (above d b r) (binder c) ks l.1 g) (renamed_formed d b r l.2 h)
    where
      go : (t : Bool) → loose (above d b r) c ≡ t → width (rename f (above d b r) (binder c) ks) ≡ width ks → Formed (rename f (above d b r) (binder c) ks) → Formed (rename f d b r) → Formed (node (cond t (cell 0 0 0 (above d b r + f (payload c - above d b r))) c) (rename f (above d b r) (binder c) ks) (rename f d b r))
      go false o w i j = (s, n ∙ sym w, z, bd, v, i, j)
      go true o w i j =
          let q = fresh (above d b r) c l.0 o in
          let u = q.3 in
          let x = q.2 in
          (omega (arith, u, fits), omega (arith, u, fits, x, n, w), omega (arith, u, fits), omega (arith, u, fits), λ y. omega (arith, u, fits), i, j)

  pub renamed_small : (d b : ℕ) (t : Row) → Small m t → Small (m + k) (rename f d b t)
  renamed_small d b t s =
      let l = small_low m t s.formed s.below in
      record {
        formed = renamed_formed d b t l s.formed;
        below = low_below (m + k) (rename f d b t) fits (renamed_low d b t l);
      }

  -- a function that undoes it renames the row back
  module _ (g : ℕ → ℕ) (undoes : (n : ℕ) → g (f n) ≡ n) where
    renumbered_back : (d c : ℕ) → (kind c ≡ 0 → c ≤ m) → renumber g d (renumber f d c) ≡ c
    renumbered_back d c h = go (loose d c) refl
      where
        go : (t : Bool) → loose d c ≡ t → renumber g d (cond t (cell 0 0 0 (d + f (payload c - d))) c) ≡ c
        go false l = ap (λ t. cond t (cell 0 0 0 (d + g (payload c - d))) c) l
        go true l =
            let v = fresh d c h l in
            let w = v.3 in
            let e = cell 0 0 0 (d + f (payload c - d)) in
            let p : loose d (cell 0 0 0 (d + f (payload c - d))) ≡ true = grind (arith, nat_tests, w, fits) in
            let q : payload (cell 0 0 0 (d + f (payload c - d))) - d ≡ f (payload c - d) = omega (arith, w, fits) in
            let x = ap g q ∙ undoes (payload c - d) in
            ap (λ t. cond t (cell 0 0 0 (d + g (payload e - d))) e) p ∙ ap (λ n. cell 0 0 0 (d + n)) x ∙ omega (arith, v.1, v.2, fits)

    pub renamed_back : (d b : ℕ) (t : Row) → Low m t → rename g d b (rename f d b t) ≡ t
    renamed_back d b none l = refl
    renamed_back d b (node c ks r) l =
        let a = rename_above f d b d b r in
        let n = renumbered_binder (above d b r) c l.0 in
        let o = renumbered_back (above d b r) c l.0 in
        let x = renamed_back (above d b r) (binder c) ks l.1 in
        let y = renamed_back d b r l.2 in
        rw (a, n, o, x, y)

raised_var : (e n : ℕ) → n < 2 ^ 32 → raise e (var n) ≡ var (n + e)
raised_var e n h = ap (λ c. node c none none) (go (loose 0 (cell 0 0 0 n)) refl)
  where
    go : (q : Bool) → loose 0 (cell 0 0 0 n) ≡ q → cond q (cell 0 0 0 (0 + (payload (cell 0 0 0 n) - 0 + e))) (cell 0 0 0 n) ≡ cell 0 0 0 (n + e)
    go true l = omega (arith, h)
    go false l = absurd (grind (arith, nat_tests, h))

-- Variables put back for the numbers that a renaming made.
module _ (f : ℕ → ℕ) (k m : ℕ) (grows : (n : ℕ) → f n ≤ n + k) (fits : m + k < 2 ^ 32) (s : ℕ → Row) (undoes : (n : ℕ) → s (f n) ≡ var n) where
  pub put_back : (d b : ℕ) (t : Row) → Low m t → Formed t → substitute s d b (rename f d b t) ≡ t
  put_back d b none l g = refl
  put_back d b (node c ks r) l (w, n, z, bd, v, g, h) =
      rw (rename_above f d b d b r) (go (loose (above d b r) c) refl (put_back (above d b r) (binder c) ks l.1 g) (put_back d b r l.2 h))
    where
      go : (q : Bool) → loose (above d b r) c ≡ q → substitute s (above d b r) (binder c) (rename f (above d b r) (binder c) ks) ≡ ks → substitute s d b (rename f d b r) ≡ r → let e : ℕ = cond q (cell 0 0 0 (above d b r + f (payload c - above d b r))) c in cond (loose (above d b r) e) (raise (above d b r) (s (payload e - above d b r))) (node e (substitute s (above d b r) (binder e) (rename f (above d b r) (binder c) ks)) none) & substitute s d b (rename f d b r) ≡ node c ks r
      go false o i j = rw (o, i, j)
      go true o i j =
          let q = fresh f k m grows fits (above d b r) c l.0 o in
          let u = q.3 in
          let y = q.2 in
          let x = q.1 in
          let p : loose (above d b r) (cell 0 0 0 (above d b r + f (payload c - above d b r))) ≡ true = grind (arith, nat_tests, u, fits) in
          let a : payload (cell 0 0 0 (above d b r + f (payload c - above d b r))) - above d b r ≡ f (payload c - above d b r) = omega (arith, u, fits) in
          let leaf : width ks ≡ 0 = omega (arith, n, y, fits) in
          let back : cell 0 0 0 (payload c - above d b r + above d b r) ≡ c = omega (arith, x, y, fits) in
          let top : raise (above d b r) (s (f (payload c - above d b r))) ≡ node c none none = ap (raise (above d b r)) (undoes (payload c - above d b r)) ∙ raised_var (above d b r) (payload c - above d b r) (omega arith) ∙ ap (λ t. node t none none) back in
          rw (p, a, top, j) (ap (λ t. node c t r) (sym (empty ks leaf)))

formed-& : (s t : Row) → Formed s → Formed t → Formed (s & t)
formed-& none t g h = h
formed-& (node c ks r) t (s, n, z, b, v, i, j) h = (s, n, z, b, v, i, formed-& r t j h)

-- Substitution of single small trees.
module _ (s : ℕ → Row) (m : ℕ) (one : (n : ℕ) → width (s n) ≡ 1) (small : (n : ℕ) → n ≤ m → Small m (s n)) where
  pub substituted_formed : (d b : ℕ) (t : Row) → Low m t → Formed t → m + (d + b + size t) < 2 ^ 32 → Formed (substitute s d b t)
  substituted_formed d b none l g z = tt
  substituted_formed d b (node c ks r) l (w, n, q, bd, v, g, h) z =
      let e = above d b r in
      let le = above_le d b r in
      formed-& (cond (loose e c) (raise e (s (payload c - e))) (node c (substitute s e (binder c) ks) none)) (substitute s d b r) (go (loose e c) refl le (substitute_width s m one e (binder c) ks) (substituted_formed e (binder c) ks l.1 g (omega (arith, binder_small c, le)))) (substituted_formed d b r l.2 h (omega arith))
    where
      binder_small : (c : ℕ) → binder c ≤ 1
      binder_small c = omega arith

      go : (t : Bool) → loose (above d b r) c ≡ t → above d b r ≤ d + b → width (substitute s (above d b r) (binder c) ks) ≡ width ks → Formed (substitute s (above d b r) (binder c) ks) → Formed (cond t (raise (above d b r) (s (payload c - above d b r))) (node c (substitute s (above d b r) (binder c) ks) none))
      go true o le wd i =
          let k : kind c ≡ 0 = grind (arith, nat_tests) in
          let y = l.0 k in
          let x = small (payload c - above d b r) (omega (arith, y)) in
          renamed_formed (λ n. n + above d b r) (above d b r) m (λ n. omega arith) (omega (arith, le)) 0 0 (s (payload c - above d b r)) (small_low m _ x.formed x.below) x.formed
      go false o le wd i = (w, n ∙ sym wd, q, bd, v, i, tt)

  pub substituted_free : (t : Row) → Small m t → m + size t < 2 ^ 32 → (x : ℕ) → Free x (substitute s 0 0 t) → (n : ℕ) × Free n t × Free x (s n)
  substituted_free t st z x h =
      substitute_frees s m one x 0 0 t (λ n l. let y = small n l in small_low m (s n) y.formed y.below) (small_low m t st.formed st.below) (omega arith) h

-- variables are small
var_small : (n m : ℕ) → n ≤ m → m < 2 ^ 32 → Small m (var n)
var_small n m l f =
    record { formed = (omega arith, omega arith, omega arith, omega arith, λ k. omega arith, tt, tt); below = (λ k. omega arith, tt, tt) }

for_one : (v : Row) (x : ℕ) → width v ≡ 1 → (n : ℕ) → width («for» v x n) ≡ 1
for_one v x w n = go (eqb n x)
  where
    go : (q : Bool) → width (cond q v (var n)) ≡ 1
    go true = w
    go false = refl

for_small : (v : Row) (x m : ℕ) → Small m v → m < 2 ^ 32 → (n : ℕ) → n ≤ m → Small m («for» v x n)
for_small v x m s f n l = go (eqb n x)
  where
    go : (q : Bool) → Small m (cond q v (var n))
    go true = s
    go false = var_small n m l f

instead_one : (v : Row) → width v ≡ 1 → (n : ℕ) → width (instead v n) ≡ 1
instead_one v w zero = w
instead_one v w (suc n) = refl

instead_next : (v : Row) (n : ℕ) → instead v (n + 1) ≡ var n
instead_next v n = let k : n + 1 ≡ suc n = omega arith in ap (instead v) k

instead_small : (v : Row) (m : ℕ) → Small m v → m < 2 ^ 32 → (n : ℕ) → n ≤ m → Small m (instead v n)
instead_small v m s f zero l = s
instead_small v m s f (suc n) l = var_small n m (omega arith) f

-- what is free in the tree put for a number
for_free : (v t : Row) (x y n : ℕ) → Free n t → Free y («for» v x n) → (Free x t × Free y v) ⊎ (Free y t × (y ≡ x → ⊥))
for_free v t x y n h = go (eqb n x) refl
  where
    go : (q : Bool) → eqb n x ≡ q → Free y (cond q v (var n)) → (Free x t × Free y v) ⊎ (Free y t × (y ≡ x → ⊥))
    go true e i = let k : n ≡ x = grind (arith, nat_tests) in inl (subst (λ j. Free j t) k h, i)
    go false e i =
        let k : y ≡ n = free_var y n (free_word n 0 0 t h) i in
        inr (subst (λ j. Free j t) (sym k) h, λ w. grind (arith, nat_tests))

instead_free : (v t : Row) (y n : ℕ) → Free n t → Free y (instead v n) → (Free 0 t × Free y v) ⊎ Free (y + 1) t
instead_free v t y zero h i = inl (h, i)
instead_free v t y (suc n) h i =
    let w = free_word (suc n) 0 0 t h in
    let k : y ≡ n = free_var y n (omega arith) i in
    let j : suc n ≡ y + 1 = omega arith in
    inr (subst (λ z. Free z t) j h)

pub replaced_free : (v t : Row) (x m : ℕ) → width v ≡ 1 → Small m v → Small m t → m + size t < 2 ^ 32 → (y : ℕ) → Free y (replace v x t) → (Free x t × Free y v) ⊎ (Free y t × (y ≡ x → ⊥))
replaced_free v t x m w sv st z y h =
    let o = substituted_free («for» v x) m (for_one v x w) (for_small v x m sv (omega arith)) t st z y h in
    for_free v t x y o.0 o.1 o.2

pub instantiated_free : (v t : Row) (m : ℕ) → width v ≡ 1 → Small m v → Small m t → m + size t < 2 ^ 32 → (y : ℕ) → Free y (instantiate v t) → (Free 0 t × Free y v) ⊎ Free (y + 1) t
instantiated_free v t m w sv st z y h =
    let o = substituted_free (instead v) m (instead_one v w) (instead_small v m sv (omega arith)) t st z y h in
    instead_free v t y o.0 o.1 o.2

pub moves_keep : MovesKeep
moves_keep =
    record {
      shape = λ f d b t. (rename_size f d b t, rename_width f d b t, rename_depth f d b t);
      raised = λ n m t s h. renamed_small (λ x. x + n) n m (λ x. omega arith) h 0 0 t s;
      raised_free = λ n m t s h. renamed_frees (λ x. x + n) n m (λ x. omega arith) h 0 0 t (small_low m t s.formed s.below);
      lowered = λ m t s h.
          let z : m + 0 ≡ m = omega arith in
          subst (λ k. Small k (down t)) z (renamed_small (λ x. x - 1) 0 m (λ x. omega arith) (omega arith) 0 0 t s);
      lowered_free = λ m t s h. renamed_frees (λ x. x - 1) 0 m (λ x. omega arith) (omega arith) 0 0 t (small_low m t s.formed s.below);
      undone = λ m t s h. renamed_back (λ x. x + 1) 1 m (λ x. omega arith) h (λ x. x - 1) (λ n. omega arith) 0 0 t (small_low m t s.formed s.below);
      instantiated = λ v m t s h. put_back (λ x. x + 1) 1 m (λ x. omega arith) h (instead v) (instead_next v) 0 0 t (small_low m t s.formed s.below) s.formed;
      grows = substitute_size;
      substituted = λ s m t one small st z. substituted_formed s m one small 0 0 t (small_low m t st.formed st.below) st.formed (omega arith);
      substituted_free = λ s m t one small st z. substituted_free s m one small t st z;
      replaced_free = replaced_free;
      instantiated_free = instantiated_free;
    }
