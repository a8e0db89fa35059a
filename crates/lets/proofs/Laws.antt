-- Both laws for Bind and Flat.
use Rattle.std.proofs.Common.{◌≡◌, ℕ, zero, suc, ◌+◌, ◌^◌, ◌<◌, ◌≤◌, true, ◌⊎◌, List, [], ◌∷◌, replicate, sym, refl, ap, subst, inl, inr, ⊎_elim, arith}
use Rattle.std.proofs.lemmas.Bool.Decides.{nat_tests}
use Rattle.terms.specs.Lists.{In}
use Rattle.terms.specs.Cells.{kind, children, payload, cell}
use Rattle.terms.specs.Rows.{Row, size, width, ◌&◌, var, above, Free, Below, raise, instead, beyond}
use Rattle.terms.specs.Rows.Row.{none, node}
use Rattle.calculus.specs.Line.{Gives}
use Rattle.terms.proofs.Bridge.{size-&}
use Rattle.terms.proofs.Inject.{lawful_width}
use Rattle.terms.proofs.Moves.{Low, rename_frees, rename_lawful, substitute_frees, substitute_lawful, free_word, free_var, in_row, in_kids, in_own, in_next, under_more, under_less, frees_first, last, Every}
use Rattle.lets.specs.Syntax.{Sort, let_in, admits, kids, Lawful, Term}
use Rattle.lets.specs.Syntax.Sort.{term, rule, left, pattern}
use Rattle.lets.specs.Figure.{line}
use Rattle.lets.specs.Laws.{SomeLaws}
use Rattle.lets.proofs.Within.{FirstWithin, SecondWithin, first_held, second_held}

-- a variable's payload does not matter
pub variables : (s : Sort) (c p : ℕ) → kind c ≡ 0 → admits s c ≡ true → p < 2 ^ 32 → (admits s (cell 0 0 0 p) ≡ true) × (kids s (cell 0 0 0 p) ≡ kids s c)
unfolding admits kids
variables term c p k a l = let z : children (cell 0 0 0 p) ≡ children c = grind (arith, nat_tests) in (grind (arith, nat_tests), ap (λ n. replicate n term) z)
variables rule c p k a l = absurd (grind (arith, nat_tests))
variables left c p k a l = absurd (grind (arith, nat_tests))
variables pattern c p k a l = let z : children (cell 0 0 0 p) ≡ children c = grind (arith, nat_tests) in (grind (arith, nat_tests), ap (λ n. replicate n pattern) z)

pub leaf : (s : Sort) (c : ℕ) → admits s c ≡ true → kind c ≡ 0 → c ≡ payload c
unfolding admits
leaf term c a k = grind (arith, nat_tests)
leaf rule c a k = grind (arith, nat_tests)
leaf left c a k = grind (arith, nat_tests)
leaf pattern c a k = grind (arith, nat_tests)

pub lows : (m : ℕ) (ss : List Sort) (t : Row) → Lawful ss t → Below m t → Low m t
lows m [] none h b = tt
lows m [] (node c ks r) h b = absurd h
lows m (s ∷ ss) none h b = absurd h
lows m (s ∷ ss) (node c ks r) h b = (λ k. let e = leaf s c h.0 k in let q = b.0 k in omega (arith, e, q), lows m (kids s c) ks h.1 b.1, lows m ss r h.2 b.2)

pub below-& : (m : ℕ) (a b : Row) → Below m (a & b) → Below m a × Below m b
below-& m none b h = (tt, h)
below-& m (node c ks r) b h = let q = below-& m r b h.2 in ((h.0, h.1, q.0), q.1)

pub beside : (s : Sort) (ss : List Sort) (p t : Row) → Lawful (s ∷ []) p → Lawful ss t → Lawful (s ∷ ss) (p & t)
beside s ss none t h k = absurd h
beside s ss (node c ks none) t h k = (h.0, h.1, k)
beside s ss (node c ks (node d js r)) t h k = absurd h.2

pub one_wide : (t : Row) → Term t → width t ≡ 1
one_wide t h = lawful_width admits kids (term ∷ []) t h

pub let_term : (a e : Row) → Term a → Term e → Term (let_in a e)
unfolding admits kids
let_term a e h k = (refl, beside term (term ∷ []) a e h k, tt)

-- the free variables of a let
pub let_free : (x : ℕ) (a e : Row) → Term a → Term e → Free x (let_in a e) → Free x a ⊎ Free (x + 1) e
let_free x a e h k f =
    ⊎_elim
    (λ o. absurd o)
    (λ q. ⊎_elim
    (λ i. ⊎_elim inl (λ j. inr (under_more x 1 0 0 e (subst (λ l. In x l) (last 0 1 e (one_wide e k)) j))) (frees_first x 0 1 0 a e (one_wide a h) (before e (one_wide e k)) i))
    (λ i. absurd i) q)
    (in_row x 0 0 (cell 35 1 2 0) (a & e) none f)
  where
    before : (e : Row) → width e ≡ 1 → above 0 1 e ≡ 0
    before none w = absurd (omega arith)
    before (node c ks r) w = refl

let_bound : (x : ℕ) (a e : Row) → Term a → Term e → Free x a → Free x (let_in a e)
let_bound x none e h k f = absurd h
let_bound x (node c ks (node d js r)) e h k f = absurd h.2
let_bound x (node c ks none) none h k f = absurd k
let_bound x (node c ks none) (node d js r) h k f =
    in_kids x 0 0 (cell 35 1 2 0) (node c ks (node d js r)) none
    (⊎_elim (in_own x 0 1 c ks (node d js r)) (λ q. ⊎_elim (in_kids x 0 1 c ks (node d js r)) (λ i. absurd i) q) (in_row x 0 0 c ks none f))

pub let_body : (x : ℕ) (a e : Row) → Term a → Term e → Free (x + 1) e → Free x (let_in a e)
let_body x none e h k f = absurd h
let_body x (node c ks (node d js r)) e h k f = absurd h.2
let_body x (node c ks none) e h k f =
    in_kids x 0 0 (cell 35 1 2 0) (node c ks e) none (in_next x 0 1 c ks e (subst (λ l. In x l) (sym (last 0 1 e (one_wide e k))) (under_less x 1 0 0 e f)))

-- what a let's parts have
let_low : (a e : Row) → Below 65535 (let_in a e) → Below 65535 a × Below 65535 e
let_low a e b = below-& 65535 a e b.1

-- 3 Bind
module _ (a : Row) (h : Term a) (b : Below 65535 a) where
  instead_low : (n : ℕ) → n ≤ 65535 → Low 65535 (instead a n)
  instead_low zero z = lows 65535 (term ∷ []) a h b
  instead_low (suc n) z = (λ k. omega arith, tt, tt)

  pub instead_wide : (n : ℕ) → width (instead a n) ≡ 1
  instead_wide zero = one_wide a h
  instead_wide (suc n) = refl

  abbrev IsTerm : Sort → Type 0
  IsTerm s = s ≡ term

  variable : (n : ℕ) → n ≤ 65535 → Term (var n)
  unfolding admits kids
  variable n z = ((variables term 0 n refl zero_admitted (omega arith)).0, childless n (omega arith), tt)
    where
      zero_admitted : admits term 0 ≡ true
      zero_admitted = refl

      childless : (n : ℕ) → n < 2 ^ 32 → Lawful (kids term (cell 0 0 0 n)) none
      childless n z = let e : children (cell 0 0 0 n) ≡ 0 = omega arith in subst (λ k. Lawful (replicate k term) none) (sym e) tt

  instead_term : (n : ℕ) → n ≤ 65535 → Term (instead a n)
  instead_term zero z = h
  instead_term (suc n) z = variable n (omega arith)

  terms : (n : ℕ) → Every IsTerm (replicate n term)
  terms zero = tt
  terms (suc n) = (refl, terms n)

  kept : (g : Sort) (c : ℕ) → IsTerm g → Every IsTerm (kids g c)
  unfolding kids
  kept g c e = subst (λ s. Every IsTerm (kids s c)) (sym e) (terms (children c))

  stands : (g : Sort) (c n e : ℕ) → IsTerm g → n ≤ 65535 → kind c ≡ 0 → admits g c ≡ true → 65535 + e < 2 ^ 32 → Lawful (g ∷ []) (raise e (instead a n))
  stands g c n e i z k l w =
      subst (λ s. Lawful (s ∷ []) (raise e (instead a n))) (sym i)
      (rename_lawful (λ j. j + e) e 65535 (λ j. omega arith) w admits kids variables 0 0 (term ∷ []) (instead a n) (instead_low n z) (instead_term n z))

-- what both laws use: the body is short
pub bind_first : (program : Row) (argument : ℕ) (t u : Row) → Below 65535 t → (g : Gives (line 3 program argument t) u) → size g.0.e ≤ 2 ^ 31 → Term u
bind_first program argument t u low g z =
    let l = g.0 in
    let b = let_low l.a l.e (subst (Below 65535) l.is low) in
    let a = l.letters.0 in
    subst Term (sym g.3)
    (substitute_lawful (instead l.a) 65535 (instead_wide l.a a b.0) admits kids (λ s. s ≡ term) (kept l.a a b.0) (stands l.a a b.0) 0 0 (term ∷ []) l.e (refl, tt)
    (lows 65535 (term ∷ []) l.e l.letters.1 b.1) (omega (arith, z)) l.letters.1)

pub bind_second : (program : Row) (argument : ℕ) (t u : Row) → Below 65535 t → (g : Gives (line 3 program argument t) u) → size g.0.e ≤ 2 ^ 31 → (x : ℕ) → Free x u → Free x t
bind_second program argument t u low g z x f =
    let l = g.0 in
    let b = let_low l.a l.e (subst (Below 65535) l.is low) in
    let a = l.letters.0 in
    let o = substitute_frees (instead l.a) 65535 (instead_wide l.a a b.0) x 0 0 l.e (instead_low l.a a b.0) (lows 65535 (term ∷ []) l.e l.letters.1 b.1) (omega (arith, z)) (subst (Free x) g.3 f) in
    subst (Free x) (sym l.is) (go l.a l.e a l.letters.1 o.0 o.1 o.2)
  where
    go : (a e : Row) → Term a → Term e → (n : ℕ) → Free n e → Free x (instead a n) → Free x (let_in a e)
    go a e h k zero i j = let_bound x a e h k j
    go a e h k (suc n) i j =
        let w = free_word (suc n) 0 0 e i in
        let y = free_var x n (omega (arith, w)) j in
        let q : suc n ≡ x + 1 = omega (arith, y) in
        let_body x a e h k (subst (λ m. Free m e) q i)

-- a let is longer than its body
pub body_size : (program : Row) (argument : ℕ) (t u : Row) (g : Gives (line 3 program argument t) u) → size t ≤ 2 ^ 31 → size g.0.e ≤ 2 ^ 31
body_size program argument t u g h =
    let l = g.0 in
    let z = subst (λ r. size r ≤ 2 ^ 31) l.is h in
    let s = size-& l.a l.e in
    omega (arith, z, s)

-- 5 Flat
grows : (n : ℕ) → beyond n ≤ n + 1
grows zero = omega arith
grows (suc n) = omega arith

pub flat_first : FirstWithin 5
flat_first program argument t u rules h g =
    let l = g.0 in
    let b = (let_low (let_in l.a l.b) l.e (subst (Below 65535) l.is h.low)).1 in
    let e = l.letters.2 in
    subst Term (sym g.3) (let_term l.a _ l.letters.0 (let_term l.b _ l.letters.1
    (rename_lawful beyond 1 65535 grows (omega arith) admits kids variables 0 0 (term ∷ []) l.e (lows 65535 (term ∷ []) l.e e b) e)))

pub flat_second : SecondWithin 5
flat_second program argument t u rules h g x f =
    let l = g.0 in
    let b = (let_low (let_in l.a l.b) l.e (subst (Below 65535) l.is h.low)).1 in
    let low = lows 65535 (term ∷ []) l.e l.letters.2 b in
    let e' = rename_lawful beyond 1 65535 grows (omega arith) admits kids variables 0 0 (term ∷ []) l.e low l.letters.2 in
    let ta = l.letters.0 in
    let tb = l.letters.1 in
    let inner = let_term l.a l.b ta tb in
    subst (Free x) (sym l.is)
    (⊎_elim
    (λ i. let_bound x (let_in l.a l.b) l.e inner l.letters.2 (let_bound x l.a l.b ta tb i))
    (λ i. ⊎_elim
    (λ j. let_bound x (let_in l.a l.b) l.e inner l.letters.2 (let_body x l.a l.b ta tb j))
    (λ j.
    let o = rename_frees beyond 1 65535 grows (omega arith) (x + 1 + 1) 0 0 l.e low j in
    let_body x (let_in l.a l.b) l.e inner l.letters.2 (go l.e o.0 o.1 o.2))
    (let_free (x + 1) l.b _ tb e' i))
    (let_free x l.a _ ta (let_term l.b _ tb e') (subst (Free x) g.3 f)))
  where
    go : (e : Row) (n : ℕ) → Free n e → x + 1 + 1 ≡ beyond n → Free (x + 1) e
    go e zero i q = absurd (omega (arith, q))
    go e (suc n) i q = let z : suc n ≡ x + 1 = omega (arith, q) in subst (λ m. Free m e) z i

pub some_laws : SomeLaws
some_laws = (
  (λ p k t u r h g. bind_first p k t u h.low g (body_size p k t u g h.short), λ p k t u r h g. bind_second p k t u h.low g (body_size p k t u g h.short)),
  (first_held 5 flat_first, second_held 5 flat_second),
)
