use Rattle.std.proofs.Common.{◌≡◌, ℕ, suc, List, [], ◌∷◌, ◌++◌, length, ◌<ℤ◌, Ok, Err, sym, refl, ap, ◌∙◌, subst₂, inl, inr, arith}
use mathlib.Core.Bool.{false≢true}
use Rattle.calculus.specs.Line as Line
use Rattle.terms.specs.Lists.{In}
use Rattle.terms.specs.Cells.{kind, cell}
use Rattle.terms.specs.Rows.{Row, width, ◌&◌, var, pick}
use Rattle.terms.specs.Rows.Row.{none, node}
use Rattle.terms.proofs.Inject.{top, under, inj-&, lawful_width}
use Rattle.verse.specs.Syntax.{int, add, gt, tuple, lambda, app, seq, eqn, exists, fail, choice, one, all, admits, kids}
use Rattle.verse.specs.Syntax.Sort.{equ}
use Rattle.verse.specs.Contexts.{Context, V, Nonempty, ◌⟨◌⟩, ◌⟦◌⟧, place, CX, SC, SX, choice_free}
use Rattle.verse.specs.Contexts.Context.{□, in_equation, in_first, in_second, in_exists, in_left, in_right, in_one, in_all}
use Rattle.verse.specs.Contexts.V.{▢, among}
use Rattle.verse.specs.Lines.{Pair, value, Binds, Literals, Tuples, Holds}
use Rattle.verse.specs.Figure.{Says, HasRule, Apt, line}
use Rattle.verse.specs.Examples.{L, Examples}

-- the answers
ok : (n : ℕ) (inner : List ℕ) (t u : Row) → HasRule n → Apt n 0 inner → Line.Gives (line n inner t) u → Says n 0 inner t (Ok u)
ok n inner t u h a g = (h, a, g)

no12 : (n : ℕ) (inner : List ℕ) (t : Row) → HasRule n → Apt n 0 inner → Line.NoForm (line n inner t) → Says n 0 inner t (Err 12)
no12 n inner t h a g = inr (inr (inl (refl, h, a, g)))

no13 : (n : ℕ) (inner : List ℕ) (t : Row) → HasRule n → Apt n 0 inner → Line.FormOnly (line n inner t) → Says n 0 inner t (Err 13)
no13 n inner t h a g = inr (inr (inr (inl (refl, h, a, g))))

no14 : (n : ℕ) (inner : List ℕ) (t : Row) → HasRule n → Apt n 0 inner → Line.SumOut (line n inner t) → Says n 0 inner t (Err 14)
no14 n inner t h a g = inr (inr (inr (inr (refl, h, a, g))))

-- no inner place is used
bare : (n : ℕ) → Apt n 0 []
bare n = (refl, inr refl)

-- the operands of a pair
operands : (op : ℕ) (a b : ℕ) (l : Pair (node op none none) (app (node op none none) (tuple (int a & int b)))) → (l.k₁ ≡ a) × (l.k₂ ≡ b)
operands op a b l =
    let p = ap (λ t. top (pick t 0 (1 ∷ 0 ∷ []))) l.is in
    let q = ap (λ t. top (pick t 0 (1 ∷ 1 ∷ []))) l.is in
    (omega (arith, p), omega (arith, q))

pub gt_equal : Says 2 0 [] (app gt (tuple (int 3 & int 3))) (Err 13)
gt_equal = no13 2 [] (app gt (tuple (int 3 & int 3))) (omega arith) (bare 2) (
  record { k₁ = 3; k₂ = 3; letters = (omega arith, omega arith); is = refl },
  λ l h. let o = operands (cell 2 0 0 1) 3 3 l in
      let g : value 3 <ℤ value 3 = subst₂ (λ a b. value b <ℤ value a) o.0 o.1 h in
      g.lt,
)

pub gt_fails : Says 3 0 [] (app gt (tuple (int 3 & int 3))) (Ok fail)
gt_fails = ok 3 [] (app gt (tuple (int 3 & int 3))) fail (omega arith) (bare 3)
    (record { k₁ = 3; k₂ = 3; letters = (omega arith, omega arith); is = refl }, record { le = tt }, tt, refl)

pub gt_signed : Says 2 0 [] (app gt (tuple (int 3 & int 4294967295))) (Ok (int 3))
gt_signed = ok 2 [] (app gt (tuple (int 3 & int 4294967295))) (int 3) (omega arith) (bare 2)
    (record { k₁ = 3; k₂ = 4294967295; letters = (omega arith, omega arith); is = refl }, record { lt = tt }, tt, refl)

pub add_out : Says 1 0 [] (app add (tuple (int 2147483647 & int 1))) (Err 14)
add_out = no14 1 [] (app add (tuple (int 2147483647 & int 1))) (omega arith) (bare 1)
    (record { k₁ = 2147483647; k₂ = 1; letters = (omega arith, omega arith); is = refl }, tt, λ f. let g = f.sfits in omega (arith, g))

pub add_zero : Says 1 0 [] (app add (tuple (int 2147483647 & int 0))) (Ok (int 2147483647))
add_zero = ok 1 [] (app add (tuple (int 2147483647 & int 0))) (int 2147483647) (omega arith) (bare 1)
    (record { k₁ = 2147483647; k₂ = 0; letters = (omega arith, omega arith); is = refl }, tt, record { sfits = omega arith }, refl)

pub second_step : Says 1 0 [] (app add (tuple (int 4 & int 3))) (Ok (int 7))
second_step = ok 1 [] (app add (tuple (int 4 & int 3))) (int 7) (omega arith) (bare 1)
    (record { k₁ = 4; k₂ = 3; letters = (omega arith, omega arith); is = refl }, tt, record { sfits = omega arith }, refl)

abbrev pairs : Row
pairs = seq (eqn (tuple (int 1)) (tuple (int 1 & int 2))) (int 5)

no_tuples : Tuples pairs → ⊥
no_tuples l =
    let p = ap (λ t. top (pick t 0 (0 ∷ 0 ∷ []))) l.is in
    let q = ap (λ t. top (pick t 0 (0 ∷ 1 ∷ []))) l.is in
    omega (arith, p, q, l.same)

no_literals : (a b : ℕ) (ks js e : Row) → (kind a ≡ 1 → ⊥) → Literals (seq (eqn (node a ks none) (node b js none)) e) → ⊥
no_literals a b ks js e h l =
    let p = ap (λ t. top (pick t 0 (0 ∷ 0 ∷ []))) l.is in
    h (omega (arith, p, l.letters.0))

pub tuples_differ : Says 8 0 [] pairs (Err 12)
tuples_differ = no12 8 [] pairs (omega arith) (bare 8) no_tuples

pub tuples_fail : Says 9 0 [] pairs (Ok fail)
unfolding admits kids
tuples_fail = ok 9 [] pairs fail (omega arith) (bare 9) (
  record { h₁ = tuple (int 1); h₂ = tuple (int 1 & int 2); e = int 5; letters = ((refl, (refl, tt, tt), tt), (refl, (refl, tt, (refl, tt, tt)), tt), (refl, tt, tt)); is = refl },
  (
    λ u g. no_literals (cell 3 0 1 0) (cell 3 0 2 0) (int 1) (int 1 & int 2) (int 5) (λ z. omega arith) g.0,
    λ u g. no_tuples g.0,
    λ z. omega arith,
    λ z. omega arith,
  ),
  tt,
  refl,
)

pub operators_no : Says 7 0 [] (seq (eqn add add) (int 1)) (Err 12)
operators_no = no12 7 [] (seq (eqn add add) (int 1)) (omega arith) (bare 7)
    (no_literals (cell 2 0 0 0) (cell 2 0 0 0) none none (int 1) (λ z. omega arith))

pub operators_fail : Says 9 0 [] (seq (eqn add add) (int 1)) (Ok fail)
unfolding admits kids
operators_fail = ok 9 [] (seq (eqn add add) (int 1)) fail (omega arith) (bare 9) (
  record { h₁ = add; h₂ = add; e = int 1; letters = ((refl, tt, tt), (refl, tt, tt), (refl, tt, tt)); is = refl },
  (
    λ u g. no_literals (cell 2 0 0 0) (cell 2 0 0 0) none none (int 1) (λ z. omega arith) g.0,
    λ u g. let p = ap (λ t. top (pick t 0 (0 ∷ 0 ∷ []))) g.0.is in omega (arith, p),
    λ z. omega arith,
    λ z. omega arith,
  ),
  tt,
  refl,
)

-- what stands where an inner place is empty
nothing : (x : ℕ) (p : List ℕ) → [] ≡ x ∷ p → ⊥
nothing x p e = let n : 0 ≡ suc (length p) = ap length e in omega (arith, n)

no_way : (C : Context) → [] ≡ place C → C ≡ □
no_way □ e = refl
no_way (in_equation v C r) e = absurd (nothing _ _ e)
no_way (in_first C r) e = absurd (nothing _ _ e)
no_way (in_second q C) e = absurd (nothing _ _ e)
no_way (in_exists C) e = absurd (nothing _ _ e)
no_way (in_left C r) e = absurd (nothing _ _ e)
no_way (in_right r C) e = absurd (nothing _ _ e)
no_way (in_one C) e = absurd (nothing _ _ e)
no_way (in_all C) e = absurd (nothing _ _ e)

-- the parts of x = v; e
binds_inj : (x : ℕ) (v e : Row) → width v ≡ 1 → (l : Binds (seq (eqn (var x) v) e)) → (l.x ≡ x) × (l.v ≡ v) × (l.e ≡ e)
binds_inj x v e w l =
    let a = inj-& (eqn (var x) v) e (eqn (var l.x) l.v) l.e refl (ap under l.is) in
    let p = ap (λ t. top (under t)) a.0 in
    let q = inj-& (var x) v (var l.x) l.v refl (ap under a.0) in
    (omega (arith, p), sym q.1, sym a.1)

abbrev same : Row
same = seq (eqn (var 0) (var 0)) (int 1)

pub same_occurs : Says 10 0 [] same (Err 13)
unfolding admits kids
same_occurs = no13 10 [] same (omega arith) (bare 10) (
  record { x = 0; v = var 0; e = int 1; letters = (omega arith, (refl, tt, tt), (refl, tt, tt)); is = refl },
  λ l d. let b = binds_inj 0 (var 0) (int 1) refl l in go d.0 d.1 l.x (sym b.1 ∙ d.2),
)
  where
    go : (W : V) → Nonempty W → (x : ℕ) → var 0 ≡ W ⟨ var x ⟩ → ⊥
    go ▢ h x e = h
    go (among b W a) h x e = let p = ap top e in omega (arith, p)

pub same_subst : Says 11 0 [] same (Err 13)
unfolding admits kids
same_subst = no13 11 [] same (omega arith) (bare 11) (
  record { C = □; goes = tt; way = refl; hole = same; there = record { x = 0; v = var 0; e = int 1; letters = (omega arith, (refl, tt, tt), (refl, tt, tt)); is = refl }; is = refl },
  λ l h.
      let c = no_way l.C l.way in
      let e : same ≡ l.hole = l.is ∙ ap (λ C. C ⟦ l.hole ⟧) c in
      let t = l.there in
      go l.hole (sym e) t h,
)
  where
    go : (u : Row) → u ≡ same → (t : Binds u) → (Holds t.x t.v → ⊥) → ⊥
    go u e t h =
        let s : Binds same = record { x = t.x; v = t.v; e = t.e; letters = t.letters; is = sym e ∙ t.is } in
        let b = binds_inj 0 (var 0) (int 1) refl s in
        h (▢, b.1 ∙ ap var (sym b.0))

pub occurs : Says 10 0 [] (seq (eqn (var 0) (tuple (var 0))) (int 1)) (Ok fail)
unfolding admits kids
occurs = ok 10 [] (seq (eqn (var 0) (tuple (var 0))) (int 1)) fail (omega arith) (bare 10) (
  record { x = 0; v = tuple (var 0); e = int 1; letters = (omega arith, (refl, (refl, tt, tt), tt), (refl, tt, tt)); is = refl },
  (among none ▢ none, tt, refl),
  tt,
  refl,
)

-- what is neither x nor a tuple is not V[x]
not_held : (c : ℕ) (ks : Row) (x : ℕ) → (c ≡ cell 3 0 (width ks) 0 → ⊥) → (c ≡ cell 0 0 0 x → ⊥) → Holds x (node c ks none) → ⊥
not_held c ks x h k (▢, e) = k (ap top e)
not_held c ks x h k (among b W a, e) = h (ap top e ∙ ap (λ u. cell 3 0 (width u) 0) (sym (ap under e)))

pub lambda_subst : Says 11 0 [] (seq (eqn (var 0) L) (var 0)) (Ok (seq (eqn (var 0) L) L))
unfolding admits kids
lambda_subst = ok 11 [] (seq (eqn (var 0) L) (var 0)) (seq (eqn (var 0) L) L) (omega arith) (bare 11) (
  record { C = □; goes = tt; way = refl; hole = seq (eqn (var 0) L) (var 0); there = record { x = 0; v = L; e = var 0; letters = (omega arith, (refl, (refl, tt, tt), tt), (refl, tt, tt)); is = refl }; is = refl },
  not_held (cell 4 1 1 0) (var 1) 0 (λ e. omega (arith, e)) (λ e. omega (arith, e)),
  tt,
  refl,
)

pub nested_subst : Says 11 0 [] (seq (eqn (var 0) (var 5)) (lambda (var 1))) (Ok (seq (eqn (var 0) (var 5)) (lambda (var 6))))
unfolding admits kids
nested_subst = ok 11 [] (seq (eqn (var 0) (var 5)) (lambda (var 1))) (seq (eqn (var 0) (var 5)) (lambda (var 6))) (omega arith) (bare 11) (
  record { C = □; goes = tt; way = refl; hole = seq (eqn (var 0) (var 5)) (lambda (var 1)); there = record { x = 0; v = var 5; e = lambda (var 1); letters = (omega arith, (refl, tt, tt), (refl, (refl, tt, tt), tt)); is = refl }; is = refl },
  not_held (cell 0 0 0 5) none 0 (λ e. omega (arith, e)) (λ e. omega (arith, e)),
  tt,
  refl,
)

abbrev sum_of : Row → Row
sum_of v = app add (tuple (v & int 3))

pub first_step : Says 11 0 [] (seq (eqn (var 0) (int 4)) (sum_of (var 0))) (Ok (seq (eqn (var 0) (int 4)) (sum_of (int 4))))
unfolding admits kids
first_step = ok 11 [] (seq (eqn (var 0) (int 4)) (sum_of (var 0))) (seq (eqn (var 0) (int 4)) (sum_of (int 4))) (omega arith) (bare 11) (
  record { C = □; goes = tt; way = refl; hole = seq (eqn (var 0) (int 4)) (sum_of (var 0)); there = record { x = 0; v = int 4; e = sum_of (var 0); letters = (omega arith, (refl, tt, tt), (refl, (refl, tt, (refl, (refl, tt, (refl, tt, tt)), tt)), tt)); is = refl }; is = refl },
  not_held (cell 1 0 0 4) none 0 (λ e. omega (arith, e)) (λ e. omega (arith, e)),
  tt,
  refl,
)

pub third_step : Says 17 0 (0 ∷ []) (exists (seq (eqn (var 0) (int 4)) (int 7))) (Ok (int 7))
unfolding admits kids
third_step = ok 17 (0 ∷ []) (exists (seq (eqn (var 0) (int 4)) (int 7))) (int 7) (omega arith) (refl, inl (inr (inl refl))) (
  record {
    body = seq (eqn (var 0) (int 4)) (int 7);
    is = refl;
    rest = [];
    way = refl;
    own = refl;
    within = record { C = □; goes = tt; way = refl; hole = seq (eqn (var 0) (int 4)) (int 7); there = record { x = 0; v = int 4; e = int 7; letters = (omega arith, (refl, tt, tt), (refl, tt, tt)); is = refl }; is = refl };
  },
  (λ f. f, not_held (cell 1 0 0 4) none 0 (λ e. omega (arith, e)) (λ e. omega (arith, e))),
  tt,
  refl,
)

pub eliminated : Says 17 0 (0 ∷ 1 ∷ []) (exists (seq (var 3) (seq (eqn (var 0) (int 4)) (var 3)))) (Ok (seq (var 2) (var 2)))
unfolding admits kids
eliminated = ok 17 (0 ∷ 1 ∷ []) (exists (seq (var 3) (seq (eqn (var 0) (int 4)) (var 3)))) (seq (var 2) (var 2)) (omega arith) (refl, inl (inr (inl refl))) (
  record {
    body = seq (var 3) (seq (eqn (var 0) (int 4)) (var 3));
    is = refl;
    rest = 1 ∷ [];
    way = refl;
    own = refl;
    within = record { C = in_second (var 3) □; goes = ((refl, tt, tt), tt); way = refl; hole = seq (eqn (var 0) (int 4)) (var 3); there = record { x = 0; v = int 4; e = var 3; letters = (omega arith, (refl, tt, tt), (refl, tt, tt)); is = refl }; is = refl };
  },
  (away, not_held (cell 1 0 0 4) none 0 (λ e. omega (arith, e)) (λ e. omega (arith, e))),
  tt,
  refl,
)
  where
    away : In 0 (3 ∷ 3 ∷ []) → ⊥
    away (inl e) = omega (arith, e)
    away (inr (inl e)) = omega (arith, e)
    away (inr (inr e)) = e

abbrev inside : Row
inside = seq (eqn (var 0) (var 1)) (var 0)

pub floated : Says 19 0 (0 ∷ 1 ∷ []) (seq (eqn (var 0) (exists inside)) (var 0)) (Ok (exists (seq (eqn (var 1) inside) (var 1))))
unfolding admits kids
floated = ok 19 (0 ∷ 1 ∷ []) (seq (eqn (var 0) (exists inside)) (var 0)) (exists (seq (eqn (var 1) inside) (var 1))) (omega arith) (refl, inl (inr (inr (inr (inl refl))))) (
  record {
    C = in_equation (var 0) □ (var 0);
    goes = ((refl, tt, tt), tt, (refl, tt, tt));
    way = refl;
    hole = exists inside;
    there = record { e = inside; letters = (refl, (refl, (refl, tt, (refl, tt, tt)), (refl, tt, tt)), tt); is = refl };
    is = refl;
  },
  tt,
  tt,
  refl,
)

abbrev pick_one : Row → Row
pick_one e = exists (seq (eqn (var 0) e) (var 0))

pub chosen : Says 32 0 (0 ∷ 0 ∷ 0 ∷ 1 ∷ []) (one (pick_one (choice (int 1) (int 2)))) (Ok (one (choice (pick_one (int 1)) (pick_one (int 2)))))
unfolding admits kids
chosen = ok 32 (0 ∷ 0 ∷ 0 ∷ 1 ∷ []) (one (pick_one (choice (int 1) (int 2)))) (one (choice (pick_one (int 1)) (pick_one (int 2)))) (omega arith) (refl, inl (inr (inr (inr (inr refl))))) (
  record {
    S = in_one □;
    C = in_exists (in_equation (var 0) □ (var 0));
    e₁ = int 1;
    e₂ = int 2;
    goes = (tt, ((refl, tt, tt), tt, (refl, tt, tt)));
    letters = ((refl, tt, tt), (refl, tt, tt));
    way = refl;
    is = refl;
  },
  tt,
  tt,
  refl,
)

pub indexed_one : Says 5 0 [] (app (tuple (int 7)) (var 0)) (Ok (exists (seq (eqn (var 0) (var 1)) (seq (eqn (var 0) (int 0)) (int 7)))))
unfolding admits kids
indexed_one = ok 5 [] (app (tuple (int 7)) (var 0)) (exists (seq (eqn (var 0) (var 1)) (seq (eqn (var 0) (int 0)) (int 7)))) (omega arith) (bare 5)
    (record { vs = int 7; v = var 0; letters = ((refl, tt, tt), (refl, tt, tt)); some = omega arith; is = refl }, tt, tt, refl)

pub indexed_two :
    Says 5 0 [] (app (tuple (int 7 & var 0)) (var 0))
    (Ok (exists (seq (eqn (var 0) (var 1)) (choice (seq (eqn (var 0) (int 0)) (int 7)) (seq (eqn (var 0) (int 1)) (var 1))))))
unfolding admits kids
indexed_two = ok 5 [] (app (tuple (int 7 & var 0)) (var 0)) (exists (seq (eqn (var 0) (var 1)) (choice (seq (eqn (var 0) (int 0)) (int 7)) (seq (eqn (var 0) (int 1)) (var 1))))) (omega arith) (bare 5)
    (record { vs = int 7 & var 0; v = var 0; letters = ((refl, tt, (refl, tt, tt)), (refl, tt, tt)); some = omega arith; is = refl }, tt, tt, refl)

pub exchanged : Says 22 0 [] (exists (exists (seq (eqn (var 1) (var 0)) (var 2)))) (Ok (exists (exists (seq (eqn (var 0) (var 1)) (var 2)))))
unfolding admits kids
exchanged = ok 22 [] (exists (exists (seq (eqn (var 1) (var 0)) (var 2)))) (exists (exists (seq (eqn (var 0) (var 1)) (var 2)))) (omega arith) (bare 22)
    (record { e = seq (eqn (var 1) (var 0)) (var 2); letters = (refl, (refl, (refl, tt, (refl, tt, tt)), (refl, tt, tt)), tt); is = refl }, tt, tt, refl)

pub gathered : Says 28 0 [] (all (choice (int 1) (choice (int 2) (var 0)))) (Ok (tuple (int 1 & int 2 & var 0)))
unfolding admits kids
gathered = ok 28 [] (all (choice (int 1) (choice (int 2) (var 0)))) (tuple (int 1 & int 2 & var 0)) (omega arith) (bare 28)
    (record { vs = int 1 & int 2 & var 0; letters = (refl, tt, (refl, tt, (refl, tt, tt))); many = (omega arith, omega arith); is = refl }, tt, tt, refl)

-- the ways through fail; (1 | 2): to its second child, past fail, none
abbrev after_fail : Row
after_fail = seq fail (choice (int 1) (int 2))

heads : (x y : ℕ) (p q : List ℕ) → x ∷ p ≡ y ∷ q → x ≡ y
heads x y p q e = cc e

no_pass : (C : Context) (a b : Row) → CX C → 1 ∷ [] ≡ place C → after_fail ≡ C ⟦ choice a b ⟧ → ⊥
no_pass □ a b g w e = let p = ap top e in omega (arith, p)
no_pass (in_equation v C r) a b g w e = let p = heads _ _ _ _ w in omega (arith, p)
no_pass (in_first C r) a b g w e = let p = heads _ _ _ _ w in omega (arith, p)
no_pass (in_second q C) a b g w e =
    let k = inj-& fail (choice (int 1) (int 2)) q (C ⟦ choice a b ⟧) (sym (lawful_width admits kids (equ ∷ []) q g.0)) (ap under e) in
    false≢true (ap choice_free k.0 ∙ g.1)
no_pass (in_exists C) a b g w e = let p = heads _ _ _ _ w in omega (arith, p)
no_pass (in_left C r) a b g w e = g
no_pass (in_right r C) a b g w e = g
no_pass (in_one C) a b g w e = g
no_pass (in_all C) a b g w e = g

no_scope : (S C : Context) (a b : Row) → SC S → CX C → 1 ∷ [] ≡ place S ++ place C → after_fail ≡ S ⟦ C ⟦ choice a b ⟧ ⟧ → ⊥
no_scope □ C a b h g w e = no_pass C a b g w e
no_scope (in_equation v S r) C a b h g w e = h
no_scope (in_first S r) C a b h g w e = h
no_scope (in_second q S) C a b h g w e = h
no_scope (in_exists S) C a b h g w e = h
no_scope (in_left S r) C a b h g w e = let p = ap top e in omega (arith, p)
no_scope (in_right r S) C a b h g w e = let p = ap top e in omega (arith, p)
no_scope (in_one S) C a b h g w e = h
no_scope (in_all S) C a b h g w e = h

tails : (x y : ℕ) (p q : List ℕ) → x ∷ p ≡ y ∷ q → p ≡ q
tails x y p q e = cc e

no_choice : (S C : Context) (a b : Row) → SX S → CX C → 0 ∷ 1 ∷ [] ≡ place S ++ place C → one after_fail ≡ S ⟦ C ⟦ choice a b ⟧ ⟧ → ⊥
no_choice □ C a b h g w e = h
no_choice (in_equation v S r) C a b h g w e = h
no_choice (in_first S r) C a b h g w e = h
no_choice (in_second q S) C a b h g w e = h
no_choice (in_exists S) C a b h g w e = h
no_choice (in_left S r) C a b h g w e = h
no_choice (in_right r S) C a b h g w e = h
no_choice (in_one S) C a b h g w e = no_scope S C a b h g (tails _ _ _ _ w) (ap under e)
no_choice (in_all S) C a b h g w e = let p = ap top e in omega (arith, p)

pub past_fail : Says 32 0 (0 ∷ 1 ∷ []) (one after_fail) (Err 12)
past_fail = no12 32 (0 ∷ 1 ∷ []) (one after_fail) (omega arith) (refl, inl (inr (inr (inr (inr refl)))))
    (λ l. no_choice l.S l.C l.e₁ l.e₂ l.goes.0 l.goes.1 l.way l.is)

pub examples : Examples
examples = record {
  gt_equal = gt_equal;
  gt_fails = gt_fails;
  gt_signed = gt_signed;
  add_out = add_out;
  add_zero = add_zero;
  tuples_differ = tuples_differ;
  tuples_fail = tuples_fail;
  same_occurs = same_occurs;
  same_subst = same_subst;
  occurs = occurs;
  lambda_subst = lambda_subst;
  nested_subst = nested_subst;
  operators_fail = operators_fail;
  operators_no = operators_no;
  first_step = first_step;
  second_step = second_step;
  third_step = third_step;
  eliminated = eliminated;
  floated = floated;
  chosen = chosen;
  past_fail = past_fail;
  indexed_one = indexed_one;
  indexed_two = indexed_two;
  exchanged = exchanged;
  gathered = gathered;
}
