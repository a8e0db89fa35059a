use Rattle.std.proofs.Common.{◌≡◌, ℕ, zero, suc, ◌+◌, ◌-◌, ◌^◌, ◌<◌, ◌≤◌, Bool, true, false, cond, eqb, ◌⊎◌, List, [], ◌∷◌, sym, refl, ap, ◌∙◌, subst, inl, inr, ⊎_elim, arith}
use Rattle.std.proofs.lemmas.Bool.Decides.{nat_tests}
use Rattle.terms.specs.Lists.{In}
use Rattle.terms.specs.Cells.{kind, children, payload, cell}
use Rattle.terms.specs.Rows.{Row, size, width, ◌&◌, var, Free, Below, up, raise, replace, «for»}
use Rattle.terms.specs.Rows.Row.{none, node}
use Rattle.terms.proofs.Inject.{lawful_width}
use Rattle.terms.proofs.Moves.{Low, Every, bound_in, bound_out, plain_in, plain_out, free-&, free_left, free_right, free_word, free_var, rename_frees, rename_lawful, substitute_frees, substitute_lawful}
use Rattle.verse.specs.Syntax.{Sort, lambda, seq, eqn, admits, kids, children_of, Lawful, Val, Exp}
use Rattle.verse.specs.Syntax.Sort.{val, hnf, exp, equ}
use Rattle.verse.specs.Contexts.{Context, ◌⟦◌⟧, X, CX, each}
use Rattle.verse.specs.Contexts.Context.{□, in_equation, in_first, in_second, in_exists, in_left, in_right, in_one, in_all}
use Rattle.verse.specs.Laws.{FirstOf, SecondOf, SomeLaws}
use Rattle.verse.proofs.Within.{FirstWithin, SecondWithin, first_held, second_held}

-- a value is an expression, and an expression may stand first in a sequence
pub value_exp : (v : Row) → Val v → Exp v
unfolding admits kids
value_exp none h = h
value_exp (node c ks r) h = (rw h.0, h.1, h.2)

childless : (k n : ℕ) → k ≡ 0 → children_of k n ≡ []
childless k n e = ap (λ z. children_of z n) e

-- a variable's payload does not matter
variables : (s : Sort) (c p : ℕ) → kind c ≡ 0 → admits s c ≡ true → p < 2 ^ 32 → (admits s (cell 0 0 0 p) ≡ true) × (kids s (cell 0 0 0 p) ≡ kids s c)
unfolding admits kids
variables val c p k a l = (grind (arith, nat_tests), childless (kind (cell 0 0 0 p)) _ (omega arith) ∙ sym (childless (kind c) _ k))
variables hnf c p k a l = (grind (arith, nat_tests), childless (kind (cell 0 0 0 p)) _ (omega arith) ∙ sym (childless (kind c) _ k))
variables exp c p k a l = (grind (arith, nat_tests), childless (kind (cell 0 0 0 p)) _ (omega arith) ∙ sym (childless (kind c) _ k))
variables equ c p k a l = (grind (arith, nat_tests), childless (kind (cell 0 0 0 p)) _ (omega arith) ∙ sym (childless (kind c) _ k))

-- a lawful row's variables are leaves
leaf : (s : Sort) (c : ℕ) → admits s c ≡ true → kind c ≡ 0 → c ≡ payload c
unfolding admits
leaf val c a k = grind (arith, nat_tests)
leaf hnf c a k = grind (arith, nat_tests)
leaf exp c a k = grind (arith, nat_tests)
leaf equ c a k = grind (arith, nat_tests)

lows : (m : ℕ) (ss : List Sort) (t : Row) → Lawful ss t → Below m t → Low m t
lows m [] none h b = tt
lows m [] (node c ks r) h b = absurd h
lows m (s ∷ ss) none h b = absurd h
lows m (s ∷ ss) (node c ks r) h b = (λ k. let e = leaf s c h.0 k in let q = b.0 k in omega (arith, e, q), lows m (kids s c) ks h.1 b.1, lows m ss r h.2 b.2)

below-& : (m : ℕ) (a b : Row) → Below m (a & b) → Below m a × Below m b
below-& m none b h = (tt, h)
below-& m (node c ks r) b h = let q = below-& m r b h.2 in ((h.0, h.1, q.0), q.1)

size-& : (a b : Row) → size (a & b) ≡ size a + size b
size-& none b = omega arith
size-& (node c ks r) b = omega (arith, size-& r b)

one_wide : (s : Sort) (t : Row) → Lawful (s ∷ []) t → width t ≡ 1
one_wide s t h = lawful_width admits kids (s ∷ []) t h

-- the free variables of the forms
seq_in : (x : ℕ) (q e : Row) → Free x (seq q e) → Free x q ⊎ Free x e
seq_in x q e h = free-& x q e (plain_in (cell 6 0 2 0) (q & e) (λ z. omega arith) refl x h)

seq_left : (x : ℕ) (q e : Row) → Free x q → Free x (seq q e)
seq_left x q e h = plain_out (cell 6 0 2 0) (q & e) (λ z. omega arith) refl x (free_left x q e h)

seq_right : (x : ℕ) (q e : Row) → Free x e → Free x (seq q e)
seq_right x q e h = plain_out (cell 6 0 2 0) (q & e) (λ z. omega arith) refl x (free_right x q e h)

eqn_in : (x : ℕ) (v e : Row) → Free x (eqn v e) → Free x v ⊎ Free x e
eqn_in x v e h = free-& x v e (plain_in (cell 7 0 2 0) (v & e) (λ z. omega arith) refl x h)

eqn_left : (x : ℕ) (v e : Row) → Free x v → Free x (eqn v e)
eqn_left x v e h = plain_out (cell 7 0 2 0) (v & e) (λ z. omega arith) refl x (free_left x v e h)

eqn_right : (x : ℕ) (v e : Row) → Free x e → Free x (eqn v e)
eqn_right x v e h = plain_out (cell 7 0 2 0) (v & e) (λ z. omega arith) refl x (free_right x v e h)

-- 15 VAL-ELIM
pub val_elim_first : FirstWithin 15
val_elim_first inner t u h g = subst Exp (sym g.3) g.0.letters.1

pub val_elim_second : SecondWithin 15
val_elim_second inner t u h g x f =
    let l = g.0 in
    subst (Free x) (sym l.is) (seq_right x l.v l.e (subst (Free x) g.3 f))

-- 4 APP-BETA
up_exp : (s : Sort) (v : Row) → Lawful (s ∷ []) v → Below 65535 v → Lawful (s ∷ []) (up v)
up_exp s v l b = rename_lawful (λ n. n + 1) 1 65535 (λ n. omega arith) (omega arith) admits kids variables 0 0 (s ∷ []) v (lows 65535 (s ∷ []) v l b) l

up_free : (x : ℕ) (s : Sort) (v : Row) → Lawful (s ∷ []) v → Below 65535 v → Free (x + 1) (up v) → Free x v
up_free x s v l b h =
    let o = rename_frees (λ n. n + 1) 1 65535 (λ n. omega arith) (omega arith) (x + 1) 0 0 v (lows 65535 (s ∷ []) v l b) h in
    let q = o.2 in
    let y : o.0 ≡ x = omega (arith, q) in
    subst (λ n. Free n v) y o.1

pub beta_first : FirstWithin 4
unfolding admits kids
beta_first inner t u h g =
    let l = g.0 in
    let low = subst (Below 65535) l.is h.low in
    let b = (below-& 65535 (lambda l.e) l.v low.1).1 in
    subst Exp (sym g.3) (refl, (refl, (refl, (refl, tt, value_exp (up l.v) (up_exp val l.v l.letters.1 b)), l.letters.0), tt), tt)

pub beta_second : SecondWithin 4
beta_second inner t u h g x f =
    let l = g.0 in
    let low = subst (Below 65535) l.is h.low in
    let b = (below-& 65535 (lambda l.e) l.v low.1).1 in
    let w = one_wide exp l.e l.letters.0 in
    let in_app : Free x (lambda l.e & l.v) → Free x t = λ i. subst (Free x) (sym l.is) (plain_out (cell 5 0 2 0) (lambda l.e & l.v) (λ z. omega arith) refl x i) in
    let inside = bound_in (cell 8 1 1 0) (seq (eqn (var 0) (up l.v)) l.e) (λ z. omega arith) refl refl x (subst (Free x) g.3 f) in
    ⊎_elim
    (λ i. ⊎_elim
    (λ j. absurd (zero_only (x + 1) j (omega arith)))
    (λ j. in_app (free_right x (lambda l.e) l.v (up_free x val l.v l.letters.1 b j)))
    (eqn_in (x + 1) (var 0) (up l.v) i))
    (λ i. in_app (free_left x (lambda l.e) l.v (bound_out (cell 4 1 1 0) l.e (λ z. omega arith) refl w x i)))
    (seq_in (x + 1) (eqn (var 0) (up l.v)) l.e inside)
  where
    zero_only : (n : ℕ) → In n (0 ∷ []) → 0 < n → ⊥
    zero_only n (inl e) p = omega (arith, e)
    zero_only n (inr e) p = e

-- 16 EXI-ELIM
pub exi_elim_first : FirstWithin 16
unfolding admits kids
exi_elim_first inner t u h g =
    let l = g.0 in
    let low = subst (Below 65535) l.is h.low in
    subst Exp (sym g.3) (rename_lawful (λ n. n - 1) 0 65535 (λ n. omega arith) (omega arith) admits kids variables 0 0 (exp ∷ []) l.e (lows 65535 (exp ∷ []) l.e l.letters low.1) l.letters)

pub exi_elim_second : SecondWithin 16
exi_elim_second inner t u h g x f =
    let l = g.0 in
    let low = subst (Below 65535) l.is h.low in
    let o = rename_frees (λ n. n - 1) 0 65535 (λ n. omega arith) (omega arith) x 0 0 l.e (lows 65535 (exp ∷ []) l.e l.letters low.1) (subst (Free x) g.3 f) in
    subst (Free x) (sym l.is) (bound_out (cell 8 1 1 0) l.e (λ z. omega arith) refl (one_wide exp l.e l.letters) x (go l.e o.0 o.1 o.2 g.1))
  where
    go : (e : Row) (y : ℕ) → Free y e → x ≡ y - 1 → (Free 0 e → ⊥) → Free (x + 1) e
    go e zero i q n = absurd (n i)
    go e (suc y) i q n = let z : suc y ≡ x + 1 = omega (arith, q) in subst (λ k. Free k e) z i

-- 11 SUBST
value_at : (g : Sort) (c : ℕ) → kind c ≡ 0 → admits g c ≡ true → (v : Row) → Val v → Lawful (g ∷ []) v
unfolding admits kids
value_at val c k a v h = h
value_at hnf c k a v h = absurd (grind (arith, nat_tests))
value_at exp c k a v h = value_exp v h
value_at equ c k a none h = h
value_at equ c k a (node d ks r) h = (rw h.0, h.1, h.2)

none_of : (g : Sort) (c : ℕ) → kind c ≡ 0 → kids g c ≡ []
unfolding kids
none_of g c k = childless (kind c) (children c) k

every : (l : List Sort) → Every (λ g. Unit {0}) l
every [] = tt
every (s ∷ l) = (tt, every l)

-- a tree beside others
pub beside : (s : Sort) (ss : List Sort) (p t : Row) → Lawful (s ∷ []) p → Lawful ss t → Lawful (s ∷ ss) (p & t)
beside s ss none t h k = absurd h
beside s ss (node c ks none) t h k = (h.0, h.1, k)
beside s ss (node c ks (node d js r)) t h k = absurd h.2

pub exp_equ : (e : Row) → Exp e → Lawful (equ ∷ []) e
unfolding admits kids
exp_equ none h = h
exp_equ (node c ks r) h = (rw h.0, h.1, h.2)

pub variable_at : (g : Sort) (c n : ℕ) → kind c ≡ 0 → admits g c ≡ true → n < 2 ^ 32 → Lawful (g ∷ []) (var n)
variable_at g c n k a z = let w = variables g c n k a z in (w.0, go (kids g (cell 0 0 0 n)) (none_of g (cell 0 0 0 n) (omega arith)), tt)
  where
    go : (l : List Sort) → l ≡ [] → Lawful l none
    go l e = subst (λ s. Lawful s none) (sym e) tt

hole_free : (y : ℕ) (C : Context) (h : Row) → X C → Free y h → Free y (C ⟦ h ⟧)
hole_free y □ h g f = f
hole_free y (in_equation w C e) h g f = seq_left y (eqn w (C ⟦ h ⟧)) e (eqn_right y w (C ⟦ h ⟧) (hole_free y C h g.1 f))
hole_free y (in_first C e) h g f = seq_left y (C ⟦ h ⟧) e (hole_free y C h g.0 f)
hole_free y (in_second q C) h g f = seq_right y q (C ⟦ h ⟧) (hole_free y C h g.1 f)
hole_free y (in_exists C) h g f = absurd g
hole_free y (in_left C e) h g f = absurd g
hole_free y (in_right e C) h g f = absurd g
hole_free y (in_one C) h g f = absurd g
hole_free y (in_all C) h g f = absurd g

module _ (v : Row) (x : ℕ) (value : Val v) (low : Below 65535 v) where
  for_low : (n : ℕ) → n ≤ 65535 → Low 65535 («for» v x n)
  for_low n h = go (eqb n x)
    where
      go : (q : Bool) → Low 65535 (cond q v (var n))
      go true = lows 65535 (val ∷ []) v value low
      go false = (λ k. omega arith, tt, tt)

  for_wide : (n : ℕ) → width («for» v x n) ≡ 1
  for_wide n = go (eqb n x)
    where
      go : (q : Bool) → width (cond q v (var n)) ≡ 1
      go true = one_wide val v value
      go false = refl

  -- a value stands wherever a variable may
  for_stands : (g : Sort) (c n e : ℕ) → n ≤ 65535 → kind c ≡ 0 → admits g c ≡ true → 65535 + e < 2 ^ 32 → Lawful (g ∷ []) (raise e («for» v x n))
  for_stands g c n e h k a z =
      rename_lawful (λ j. j + e) e 65535 (λ j. omega arith) z admits kids variables 0 0 (g ∷ []) («for» v x n) (for_low n h) (go (eqb n x))
    where
      go : (q : Bool) → Lawful (g ∷ []) (cond q v (var n))
      go true = value_at g c k a v value
      go false = variable_at g c n k a (omega arith)

  replace_lawful : (s : Sort) (r : Row) → Lawful (s ∷ []) r → Below 65535 r → size r ≤ 2 ^ 31 → Lawful (s ∷ []) (replace v x r)
  replace_lawful s r l b z = substitute_lawful («for» v x) 65535 for_wide admits kids (λ g. Unit {0}) (λ g c u. every (kids g c)) (λ g c n e u. for_stands g c n e) 0 0 (s ∷ []) r (tt, tt) (lows 65535 (s ∷ []) r l b) (omega arith) l

  replace_free : (y : ℕ) (s : Sort) (r : Row) → Lawful (s ∷ []) r → Below 65535 r → size r ≤ 2 ^ 31 → Free y (replace v x r) → Free y r ⊎ Free y v
  replace_free y s r l b z h =
      let o = substitute_frees («for» v x) 65535 for_wide y 0 0 r for_low (lows 65535 (s ∷ []) r l b) (omega arith) h in
      go o.0 (eqb o.0 x) o.1 o.2
    where
      go : (n : ℕ) (q : Bool) → Free n r → Free y (cond q v (var n)) → Free y r ⊎ Free y v
      go n true i j = inr j
      go n false i j = inl (subst (λ k. Free k r) (sym (free_var y n (free_word n 0 0 r i) j)) i)

  -- the parts of X
  each_exp : (C : Context) (h h' : Row) → X C → Below 65535 (C ⟦ h ⟧) → size (C ⟦ h ⟧) ≤ 2 ^ 31 → Exp h' → Exp (each (replace v x) C ⟦ h' ⟧)
  unfolding admits kids
  each_exp □ h h' g b z k = k
  each_exp (in_equation w C e) h h' g b z k =
      let bw = below-& 65535 w (C ⟦ h ⟧) b.1.1 in
      let sw = size-& w (C ⟦ h ⟧) in
      let i = each_exp C h h' g.1 bw.1 (omega (arith, sw)) k in
      (refl, (refl, beside val (exp ∷ []) (replace v x w) (each (replace v x) C ⟦ h' ⟧) (replace_lawful val w g.0 bw.0 (omega (arith, sw))) i, replace_lawful exp e g.2 b.1.2 (omega (arith, sw))), tt)
  each_exp (in_first C e) h h' g b z k =
      let bw = below-& 65535 (C ⟦ h ⟧) e b.1 in
      let sw = size-& (C ⟦ h ⟧) e in
      let i = each_exp C h h' g.0 bw.0 (omega (arith, sw)) k in
      (refl, beside equ (exp ∷ []) (each (replace v x) C ⟦ h' ⟧) (replace v x e) (exp_equ (each (replace v x) C ⟦ h' ⟧) i) (replace_lawful exp e g.1 bw.1 (omega (arith, sw))), tt)
  each_exp (in_second q C) h h' g b z k =
      let bw = below-& 65535 q (C ⟦ h ⟧) b.1 in
      let sw = size-& q (C ⟦ h ⟧) in
      let i = each_exp C h h' g.1 bw.1 (omega (arith, sw)) k in
      (refl, beside equ (exp ∷ []) (replace v x q) (each (replace v x) C ⟦ h' ⟧) (replace_lawful equ q g.0 bw.0 (omega (arith, sw))) i, tt)
  each_exp (in_exists C) h h' g b z k = absurd g
  each_exp (in_left C e) h h' g b z k = absurd g
  each_exp (in_right e C) h h' g b z k = absurd g
  each_exp (in_one C) h h' g b z k = absurd g
  each_exp (in_all C) h h' g b z k = absurd g

  each_free : (y : ℕ) (C : Context) (h h' : Row) → X C → Below 65535 (C ⟦ h ⟧) → size (C ⟦ h ⟧) ≤ 2 ^ 31 → (Free y v → Free y h) → (Free y h' → Free y h) → Free y (each (replace v x) C ⟦ h' ⟧) → Free y (C ⟦ h ⟧)
  each_free y □ h h' g b z p k f = k f
  each_free y (in_equation w C e) h h' g b z p k f =
      let bw = below-& 65535 w (C ⟦ h ⟧) b.1.1 in
      let sw = size-& w (C ⟦ h ⟧) in
      let ih = each_free y C h h' g.1 bw.1 (omega (arith, sw)) p k in
      let hole : Free y h → Free y (C ⟦ h ⟧) = hole_free y C h g.1 in
      let inner : Free y (C ⟦ h ⟧) → Free y (seq (eqn w (C ⟦ h ⟧)) e) = λ i. seq_left y (eqn w (C ⟦ h ⟧)) e (eqn_right y w (C ⟦ h ⟧) i) in
      ⊎_elim
      (λ i. ⊎_elim
      (λ j. ⊎_elim (λ o. seq_left y (eqn w (C ⟦ h ⟧)) e (eqn_left y w (C ⟦ h ⟧) o)) (λ o. inner (hole (p o))) (replace_free y val w g.0 bw.0 (omega (arith, sw)) j))
      (λ j. inner (ih j)) (eqn_in y (replace v x w) (each (replace v x) C ⟦ h' ⟧) i))
      (λ i. ⊎_elim (seq_right y (eqn w (C ⟦ h ⟧)) e) (λ o. inner (hole (p o))) (replace_free y exp e g.2 b.1.2 (omega (arith, sw)) i))
      (seq_in y (eqn (replace v x w) (each (replace v x) C ⟦ h' ⟧)) (replace v x e) f)
  each_free y (in_first C e) h h' g b z p k f =
      let bw = below-& 65535 (C ⟦ h ⟧) e b.1 in
      let sw = size-& (C ⟦ h ⟧) e in
      let ih = each_free y C h h' g.0 bw.0 (omega (arith, sw)) p k in
      let hole : Free y h → Free y (C ⟦ h ⟧) = hole_free y C h g.0 in
      ⊎_elim
      (λ i. seq_left y (C ⟦ h ⟧) e (ih i))
      (λ i. ⊎_elim (seq_right y (C ⟦ h ⟧) e) (λ o. seq_left y (C ⟦ h ⟧) e (hole (p o))) (replace_free y exp e g.1 bw.1 (omega (arith, sw)) i))
      (seq_in y (each (replace v x) C ⟦ h' ⟧) (replace v x e) f)
  each_free y (in_second q C) h h' g b z p k f =
      let bw = below-& 65535 q (C ⟦ h ⟧) b.1 in
      let sw = size-& q (C ⟦ h ⟧) in
      let ih = each_free y C h h' g.1 bw.1 (omega (arith, sw)) p k in
      let hole : Free y h → Free y (C ⟦ h ⟧) = hole_free y C h g.1 in
      ⊎_elim
      (λ i. ⊎_elim (seq_left y q (C ⟦ h ⟧)) (λ o. seq_right y q (C ⟦ h ⟧) (hole (p o))) (replace_free y equ q g.0 bw.0 (omega (arith, sw)) i))
      (λ i. seq_right y q (C ⟦ h ⟧) (ih i))
      (seq_in y (replace v x q) (each (replace v x) C ⟦ h' ⟧) f)
  each_free y (in_exists C) h h' g b z p k f = absurd g
  each_free y (in_left C e) h h' g b z p k f = absurd g
  each_free y (in_right e C) h h' g b z p k f = absurd g
  each_free y (in_one C) h h' g b z p k f = absurd g
  each_free y (in_all C) h h' g b z p k f = absurd g

-- a context with an expression in its hole is one
pub plug_exp : (C : Context) (h : Row) → X C → Exp h → Exp (C ⟦ h ⟧)
unfolding admits kids
plug_exp □ h g l = l
plug_exp (in_equation w C e) h g l = (refl, (refl, beside val (exp ∷ []) w (C ⟦ h ⟧) g.0 (plug_exp C h g.1 l), g.2), tt)
plug_exp (in_first C e) h g l = (refl, beside equ (exp ∷ []) (C ⟦ h ⟧) e (exp_equ (C ⟦ h ⟧) (plug_exp C h g.0 l)) g.1, tt)
plug_exp (in_second q C) h g l = (refl, beside equ (exp ∷ []) q (C ⟦ h ⟧) g.0 (plug_exp C h g.1 l), tt)
plug_exp (in_exists C) h g l = absurd g
plug_exp (in_left C e) h g l = absurd g
plug_exp (in_right e C) h g l = absurd g
plug_exp (in_one C) h g l = absurd g
plug_exp (in_all C) h g l = absurd g

pub plug_cx : (C : Context) (h : Row) → CX C → Exp h → Exp (C ⟦ h ⟧)
unfolding admits kids
plug_cx □ h g l = l
plug_cx (in_equation w C e) h g l = (refl, (refl, beside val (exp ∷ []) w (C ⟦ h ⟧) g.0 (plug_cx C h g.1 l), g.2), tt)
plug_cx (in_first C e) h g l = (refl, beside equ (exp ∷ []) (C ⟦ h ⟧) e (exp_equ (C ⟦ h ⟧) (plug_cx C h g.0 l)) g.1, tt)
plug_cx (in_second q C) h g l = (refl, beside equ (exp ∷ []) q (C ⟦ h ⟧) g.0 (plug_cx C h g.2 l), tt)
plug_cx (in_exists C) h g l = (refl, plug_cx C h g l, tt)
plug_cx (in_left C e) h g l = absurd g
plug_cx (in_right e C) h g l = absurd g
plug_cx (in_one C) h g l = absurd g
plug_cx (in_all C) h g l = absurd g

-- the hole of a context, as a redex of its own
hole_held : (C : Context) (h : Row) → X C → Below 65535 (C ⟦ h ⟧) → size (C ⟦ h ⟧) ≤ 2 ^ 31 → Below 65535 h × (size h ≤ 2 ^ 31)
hole_held □ h g b z = (b, z)
hole_held (in_equation w C e) h g b z = let sw = size-& w (C ⟦ h ⟧) in hole_held C h g.1 (below-& 65535 w (C ⟦ h ⟧) b.1.1).1 (omega (arith, sw))
hole_held (in_first C e) h g b z = let sw = size-& (C ⟦ h ⟧) e in hole_held C h g.0 (below-& 65535 (C ⟦ h ⟧) e b.1).0 (omega (arith, sw))
hole_held (in_second q C) h g b z = let sw = size-& q (C ⟦ h ⟧) in hole_held C h g.1 (below-& 65535 q (C ⟦ h ⟧) b.1).1 (omega (arith, sw))
hole_held (in_exists C) h g b z = absurd g
hole_held (in_left C e) h g b z = absurd g
hole_held (in_right e C) h g b z = absurd g
hole_held (in_one C) h g b z = absurd g
hole_held (in_all C) h g b z = absurd g

abbrev bound : ℕ → Row → Row → Row
bound x v e = seq (eqn (var x) v) e

subst_first : FirstOf 11
unfolding admits kids
subst_first inner t u h g =
    let l = g.0 in
    let b = l.there in
    let low = subst (Below 65535) (l.is ∙ ap (λ r. l.C ⟦ r ⟧) b.is) h.low in
    let short = subst (λ r. size r ≤ 2 ^ 31) (l.is ∙ ap (λ r. l.C ⟦ r ⟧) b.is) h.short in
    let hh = hole_held l.C (bound b.x b.v b.e) l.goes low short in
    let bv = hh.0.1.1.2 in
    let sv = hh.1 in
    let e' = replace_lawful b.v b.x b.letters.1 bv exp b.e b.letters.2 hh.0.1.2 (omega (arith, sv)) in
    let k : Exp (bound b.x b.v (replace b.v b.x b.e)) =
    (refl, (refl, beside val (exp ∷ []) (var b.x) b.v (variable_at val 0 b.x refl refl b.letters.0) (value_exp b.v b.letters.1), e'), tt) in
    subst Exp (sym g.3) (each_exp b.v b.x b.letters.1 bv l.C (bound b.x b.v b.e) (bound b.x b.v (replace b.v b.x b.e)) l.goes low short k)

subst_second : SecondOf 11
subst_second inner t u h g y f =
    let l = g.0 in
    let b = l.there in
    let is = l.is ∙ ap (λ r. l.C ⟦ r ⟧) b.is in
    let low = subst (Below 65535) is h.low in
    let short = subst (λ r. size r ≤ 2 ^ 31) is h.short in
    let hh = hole_held l.C (bound b.x b.v b.e) l.goes low short in
    let bv = hh.0.1.1.2 in
    let sv = hh.1 in
    let of-v : Free y b.v → Free y (bound b.x b.v b.e) = λ i. seq_left y (eqn (var b.x) b.v) b.e (eqn_right y (var b.x) b.v i) in
    let of-h : Free y (bound b.x b.v (replace b.v b.x b.e)) → Free y (bound b.x b.v b.e) =
    λ i. ⊎_elim
    (λ j. seq_left y (eqn (var b.x) b.v) b.e j)
    (λ j. ⊎_elim (seq_right y (eqn (var b.x) b.v) b.e) of-v (replace_free b.v b.x b.letters.1 bv y exp b.e b.letters.2 hh.0.1.2 (omega (arith, sv)) j))
    (seq_in y (eqn (var b.x) b.v) (replace b.v b.x b.e) i) in
    subst (Free y) (sym is)
    (each_free b.v b.x b.letters.1 bv y l.C (bound b.x b.v b.e) (bound b.x b.v (replace b.v b.x b.e)) l.goes low short of-v of-h (subst (Free y) g.3 f))

pub some_laws : SomeLaws
some_laws = ((first_held 15 val_elim_first, second_held 15 val_elim_second), (first_held 4 beta_first, second_held 4 beta_second), (first_held 16 exi_elim_first, second_held 16 exi_elim_second), (subst_first, subst_second))
