-- Results are unique: a redex has the left side of a line in one way only.
use Rattle.std.proofs.Common.{◌≡◌, ℕ, zero, suc, ◌-◌, ◌≤◌, List, [], ◌∷◌, ◌++◌, length, get_or, ◌+ℤ◌, sym, refl, ap, ◌∙◌, subst, ap₂, arith, w32, SFits, of_z}
use mathlib.Core.Bool.{false≢true}
use Rattle.calculus.specs.Line as Line
use Rattle.terms.specs.Cells.{cell}
use Rattle.terms.specs.Rows.{Row, width, ◌&◌, var, pick, up, down, exchange, replace}
use Rattle.terms.specs.Rows.Row.{none, node}
use Rattle.terms.proofs.Inject.{top, under, inj-&, lawful_width}
use Rattle.calculus.proofs.Single.{answer}
use Rattle.verse.specs.Syntax.{Sort, int, tuple, lambda, seq, eqn, exists, fail, choice, one, all, admits, kids, Lawful, Val, Exp, Equ, Vals}
use Rattle.verse.specs.Syntax.Sort.{val, hnf, exp, equ}
use Rattle.verse.specs.Contexts.{Context, ◌⟦◌⟧, place, X, CX, SC, SX, each, Down}
use Rattle.verse.specs.Contexts.Context.{□, in_equation, in_first, in_second, in_exists, in_left, in_right, in_one, in_all}
use Rattle.verse.specs.Lines.{Rule, Binds, Pair, value, choices, arms, equations}
use Rattle.verse.specs.Lines as Lines
use Rattle.verse.specs.Figure.{figure, line, HasRule, Apt}
use Rattle.verse.specs.Laws.{OneAnswer}
use Rattle.verse.proofs.Laws.{plug_exp, plug_cx, beside, variable_at, value_exp}

-- two children, and one
pub two : (c d : ℕ) (a b p q : Row) → width a ≡ width p → node c (a & b) none ≡ node d (p & q) none → (a ≡ p) × (b ≡ q)
two c d a b p q w e = inj-& a b p q w (ap under e)

-- trees of sorts have the same width
pub wide : (s r : Sort) (t u : Row) → Lawful (s ∷ []) t → Lawful (r ∷ []) u → width t ≡ width u
wide s r t u h k = lawful_width admits kids (s ∷ []) t h ∙ sym (lawful_width admits kids (r ∷ []) u k)

plug_width : (C : Context) (h : Row) → width h ≡ 1 → width (C ⟦ h ⟧) ≡ 1
plug_width □ h w = w
plug_width (in_equation v C e) h w = refl
plug_width (in_first C e) h w = refl
plug_width (in_second q C) h w = refl
plug_width (in_exists C) h w = refl
plug_width (in_left C e) h w = refl
plug_width (in_right e C) h w = refl
plug_width (in_one C) h w = refl
plug_width (in_all C) h w = refl

heads : (x y : ℕ) (p q : List ℕ) → x ∷ p ≡ y ∷ q → x ≡ y
heads x y p q e = cc e

pub tails : (x y : ℕ) (p q : List ℕ) → x ∷ p ≡ y ∷ q → p ≡ q
tails x y p q e = cc e

nothing : (x : ℕ) (p : List ℕ) → [] ≡ x ∷ p → ⊥
nothing x p e = let n : 0 ≡ suc (length p) = ap length e in omega (arith, n)

zero_one : (p q : List ℕ) → 0 ∷ p ≡ 1 ∷ q → ⊥
zero_one p q e = let n = heads 0 1 p q e in omega (arith, n)

-- an equation is no expression
no_equation : (v e : Row) → Exp (eqn v e) → ⊥
unfolding admits
no_equation v e h = false≢true h.0

-- an execution context, by its place
same_x : (C D : Context) (h k : Row) → X C → X D → Exp h → Exp k → place C ≡ place D → C ⟦ h ⟧ ≡ D ⟦ k ⟧ → (C ≡ D) × (h ≡ k)
same_x □ □ h k g i l m s is = (refl, is)
same_x □ (in_equation w D f) h k g i l m s is = absurd (nothing _ _ s)
same_x □ (in_first D f) h k g i l m s is = absurd (nothing _ _ s)
same_x □ (in_second p D) h k g i l m s is = absurd (nothing _ _ s)
same_x □ (in_exists D) h k g i l m s is = absurd i
same_x □ (in_left D f) h k g i l m s is = absurd i
same_x □ (in_right f D) h k g i l m s is = absurd i
same_x □ (in_one D) h k g i l m s is = absurd i
same_x □ (in_all D) h k g i l m s is = absurd i
same_x (in_equation v C e) □ h k g i l m s is = absurd (nothing _ _ (sym s))
same_x (in_equation v C e) (in_equation w D f) h k g i l m s is =
    let a = two _ _ (eqn v (C ⟦ h ⟧)) e (eqn w (D ⟦ k ⟧)) f refl is in
    let b = two _ _ v (C ⟦ h ⟧) w (D ⟦ k ⟧) (wide val val v w g.0 i.0) a.0 in
    let r = same_x C D h k g.1 i.1 l m (tails _ _ _ _ (tails _ _ _ _ s)) b.1 in
    (cc (a.1, b.0, r.0), r.1)
same_x (in_equation v C e) (in_first D f) h k g i l m s is =
    let a = two _ _ (eqn v (C ⟦ h ⟧)) e (D ⟦ k ⟧) f (sym (plug_width D k (lawful_width admits kids (exp ∷ []) k m))) is in
    absurd (no_equation v (C ⟦ h ⟧) (subst Exp (sym a.0) (plug_exp D k i.0 m)))
same_x (in_equation v C e) (in_second p D) h k g i l m s is = absurd (zero_one _ _ s)
same_x (in_equation v C e) (in_exists D) h k g i l m s is = absurd i
same_x (in_equation v C e) (in_left D f) h k g i l m s is = absurd i
same_x (in_equation v C e) (in_right f D) h k g i l m s is = absurd i
same_x (in_equation v C e) (in_one D) h k g i l m s is = absurd i
same_x (in_equation v C e) (in_all D) h k g i l m s is = absurd i
same_x (in_first C e) □ h k g i l m s is = absurd (nothing _ _ (sym s))
same_x (in_first C e) (in_equation w D f) h k g i l m s is =
    let a = two _ _ (C ⟦ h ⟧) e (eqn w (D ⟦ k ⟧)) f (plug_width C h (lawful_width admits kids (exp ∷ []) h l)) is in
    absurd (no_equation w (D ⟦ k ⟧) (subst Exp a.0 (plug_exp C h g.0 l)))
same_x (in_first C e) (in_first D f) h k g i l m s is =
    let a = two _ _ (C ⟦ h ⟧) e (D ⟦ k ⟧) f (plug_width C h (lawful_width admits kids (exp ∷ []) h l) ∙ sym (plug_width D k (lawful_width admits kids (exp ∷ []) k m))) is in
    let r = same_x C D h k g.0 i.0 l m (tails _ _ _ _ s) a.0 in
    (cc (a.1, r.0), r.1)
same_x (in_first C e) (in_second p D) h k g i l m s is = absurd (zero_one _ _ s)
same_x (in_first C e) (in_exists D) h k g i l m s is = absurd i
same_x (in_first C e) (in_left D f) h k g i l m s is = absurd i
same_x (in_first C e) (in_right f D) h k g i l m s is = absurd i
same_x (in_first C e) (in_one D) h k g i l m s is = absurd i
same_x (in_first C e) (in_all D) h k g i l m s is = absurd i
same_x (in_second q C) □ h k g i l m s is = absurd (nothing _ _ (sym s))
same_x (in_second q C) (in_equation w D f) h k g i l m s is = absurd (zero_one _ _ (sym s))
same_x (in_second q C) (in_first D f) h k g i l m s is = absurd (zero_one _ _ (sym s))
same_x (in_second q C) (in_second p D) h k g i l m s is =
    let a = two _ _ q (C ⟦ h ⟧) p (D ⟦ k ⟧) (wide equ equ q p g.0 i.0) is in
    let r = same_x C D h k g.1 i.1 l m (tails _ _ _ _ s) a.1 in
    (cc (a.0, r.0), r.1)
same_x (in_second q C) (in_exists D) h k g i l m s is = absurd i
same_x (in_second q C) (in_left D f) h k g i l m s is = absurd i
same_x (in_second q C) (in_right f D) h k g i l m s is = absurd i
same_x (in_second q C) (in_one D) h k g i l m s is = absurd i
same_x (in_second q C) (in_all D) h k g i l m s is = absurd i
same_x (in_exists C) D h k g i l m s is = absurd g
same_x (in_left C e) D h k g i l m s is = absurd g
same_x (in_right e C) D h k g i l m s is = absurd g
same_x (in_one C) D h k g i l m s is = absurd g
same_x (in_all C) D h k g i l m s is = absurd g

-- a choice context, by its place
same_cx : (C D : Context) (h k : Row) → CX C → CX D → Exp h → Exp k → place C ≡ place D → C ⟦ h ⟧ ≡ D ⟦ k ⟧ → (C ≡ D) × (h ≡ k)
same_cx □ □ h k g i l m s is = (refl, is)
same_cx □ (in_equation w D f) h k g i l m s is = absurd (nothing _ _ s)
same_cx □ (in_first D f) h k g i l m s is = absurd (nothing _ _ s)
same_cx □ (in_second p D) h k g i l m s is = absurd (nothing _ _ s)
same_cx □ (in_exists D) h k g i l m s is = absurd (nothing _ _ s)
same_cx □ (in_left D f) h k g i l m s is = absurd i
same_cx □ (in_right f D) h k g i l m s is = absurd i
same_cx □ (in_one D) h k g i l m s is = absurd i
same_cx □ (in_all D) h k g i l m s is = absurd i
same_cx (in_equation v C e) □ h k g i l m s is = absurd (nothing _ _ (sym s))
same_cx (in_equation v C e) (in_equation w D f) h k g i l m s is =
    let a = two _ _ (eqn v (C ⟦ h ⟧)) e (eqn w (D ⟦ k ⟧)) f refl is in
    let b = two _ _ v (C ⟦ h ⟧) w (D ⟦ k ⟧) (wide val val v w g.0 i.0) a.0 in
    let r = same_cx C D h k g.1 i.1 l m (tails _ _ _ _ (tails _ _ _ _ s)) b.1 in
    (cc (a.1, b.0, r.0), r.1)
same_cx (in_equation v C e) (in_first D f) h k g i l m s is =
    let a = two _ _ (eqn v (C ⟦ h ⟧)) e (D ⟦ k ⟧) f (sym (plug_width D k (lawful_width admits kids (exp ∷ []) k m))) is in
    absurd (no_equation v (C ⟦ h ⟧) (subst Exp (sym a.0) (plug_cx D k i.0 m)))
same_cx (in_equation v C e) (in_second p D) h k g i l m s is = absurd (zero_one _ _ s)
same_cx (in_equation v C e) (in_exists D) h k g i l m s is = absurd (let t = ap top is in omega (arith, t))
same_cx (in_equation v C e) (in_left D f) h k g i l m s is = absurd i
same_cx (in_equation v C e) (in_right f D) h k g i l m s is = absurd i
same_cx (in_equation v C e) (in_one D) h k g i l m s is = absurd i
same_cx (in_equation v C e) (in_all D) h k g i l m s is = absurd i
same_cx (in_first C e) □ h k g i l m s is = absurd (nothing _ _ (sym s))
same_cx (in_first C e) (in_equation w D f) h k g i l m s is =
    let a = two _ _ (C ⟦ h ⟧) e (eqn w (D ⟦ k ⟧)) f (plug_width C h (lawful_width admits kids (exp ∷ []) h l)) is in
    absurd (no_equation w (D ⟦ k ⟧) (subst Exp a.0 (plug_cx C h g.0 l)))
same_cx (in_first C e) (in_first D f) h k g i l m s is =
    let a = two _ _ (C ⟦ h ⟧) e (D ⟦ k ⟧) f (plug_width C h (lawful_width admits kids (exp ∷ []) h l) ∙ sym (plug_width D k (lawful_width admits kids (exp ∷ []) k m))) is in
    let r = same_cx C D h k g.0 i.0 l m (tails _ _ _ _ s) a.0 in
    (cc (a.1, r.0), r.1)
same_cx (in_first C e) (in_second p D) h k g i l m s is = absurd (zero_one _ _ s)
same_cx (in_first C e) (in_exists D) h k g i l m s is = absurd (let t = ap top is in omega (arith, t))
same_cx (in_first C e) (in_left D f) h k g i l m s is = absurd i
same_cx (in_first C e) (in_right f D) h k g i l m s is = absurd i
same_cx (in_first C e) (in_one D) h k g i l m s is = absurd i
same_cx (in_first C e) (in_all D) h k g i l m s is = absurd i
same_cx (in_second q C) □ h k g i l m s is = absurd (nothing _ _ (sym s))
same_cx (in_second q C) (in_equation w D f) h k g i l m s is = absurd (zero_one _ _ (sym s))
same_cx (in_second q C) (in_first D f) h k g i l m s is = absurd (zero_one _ _ (sym s))
same_cx (in_second q C) (in_second p D) h k g i l m s is =
    let a = two _ _ q (C ⟦ h ⟧) p (D ⟦ k ⟧) (wide equ equ q p g.0 i.0) is in
    let r = same_cx C D h k g.2 i.2 l m (tails _ _ _ _ s) a.1 in
    (cc (a.0, r.0), r.1)
same_cx (in_second q C) (in_exists D) h k g i l m s is = absurd (zero_one _ _ (sym s))
same_cx (in_second q C) (in_left D f) h k g i l m s is = absurd i
same_cx (in_second q C) (in_right f D) h k g i l m s is = absurd i
same_cx (in_second q C) (in_one D) h k g i l m s is = absurd i
same_cx (in_second q C) (in_all D) h k g i l m s is = absurd i
same_cx (in_exists C) □ h k g i l m s is = absurd (nothing _ _ (sym s))
same_cx (in_exists C) (in_equation w D f) h k g i l m s is = absurd (let t = ap top is in omega (arith, t))
same_cx (in_exists C) (in_first D f) h k g i l m s is = absurd (let t = ap top is in omega (arith, t))
same_cx (in_exists C) (in_second p D) h k g i l m s is = absurd (zero_one _ _ s)
same_cx (in_exists C) (in_exists D) h k g i l m s is =
    let r = same_cx C D h k g i l m (tails _ _ _ _ s) (ap under is) in
    (cc r.0, r.1)
same_cx (in_exists C) (in_left D f) h k g i l m s is = absurd i
same_cx (in_exists C) (in_right f D) h k g i l m s is = absurd i
same_cx (in_exists C) (in_one D) h k g i l m s is = absurd i
same_cx (in_exists C) (in_all D) h k g i l m s is = absurd i
same_cx (in_left C e) D h k g i l m s is = absurd g
same_cx (in_right e C) D h k g i l m s is = absurd g
same_cx (in_one C) D h k g i l m s is = absurd g
same_cx (in_all C) D h k g i l m s is = absurd g

-- a choice context that begins with a choice is empty
empty_cx : (C : Context) (a b p q : Row) → CX C → C ⟦ choice a b ⟧ ≡ choice p q → place C ≡ []
empty_cx □ a b p q g is = refl
empty_cx (in_equation v C e) a b p q g is = absurd (let t = ap top is in omega (arith, t))
empty_cx (in_first C e) a b p q g is = absurd (let t = ap top is in omega (arith, t))
empty_cx (in_second r C) a b p q g is = absurd (let t = ap top is in omega (arith, t))
empty_cx (in_exists C) a b p q g is = absurd (let t = ap top is in omega (arith, t))
empty_cx (in_left C e) a b p q g is = absurd g
empty_cx (in_right e C) a b p q g is = absurd g
empty_cx (in_one C) a b p q g is = absurd g
empty_cx (in_all C) a b p q g is = absurd g

-- what a scope gives: S⟦ C⟦a⟧ | C⟦b⟧ ⟧
abbrev spread : Context → Context → Row → Row → Row
spread S C a b = S ⟦ choice (C ⟦ a ⟧) (C ⟦ b ⟧) ⟧

choice_exp : (a b : Row) → Exp a → Exp b → Exp (choice a b)
unfolding admits kids
choice_exp none b h k = absurd h
choice_exp (node c ks none) b h k = (refl, (h.0, h.1, k), tt)
choice_exp (node c ks (node d js r)) b h k = absurd h.2

module _ (C D : Context) (a b p q : Row) (g : CX C) (i : CX D) (la : Exp a) (lb : Exp b) (lp : Exp p) (lq : Exp q) where
  wa : width (C ⟦ choice a b ⟧) ≡ 1
  wa = plug_width C (choice a b) refl

  wp : width (D ⟦ choice p q ⟧) ≡ 1
  wp = plug_width D (choice p q) refl

  same_sc : (S T : Context) → SC S → SC T → place S ++ place C ≡ place T ++ place D → S ⟦ C ⟦ choice a b ⟧ ⟧ ≡ T ⟦ D ⟦ choice p q ⟧ ⟧ → spread S C a b ≡ spread T D p q
  same_sc □ □ h k s is =
      let r = same_cx C D (choice a b) (choice p q) g i (choice_exp a b la lb) (choice_exp p q lp lq) s is in
      let m = two _ _ a b p q (wide exp exp a p la lp) r.1 in
      ap₂ (λ E x. choice (E ⟦ x ⟧) (E ⟦ b ⟧)) r.0 m.0 ∙ ap (λ y. choice (D ⟦ p ⟧) (D ⟦ y ⟧)) m.1
  same_sc □ (in_equation w T f) h k s is = absurd k
  same_sc □ (in_first T f) h k s is = absurd k
  same_sc □ (in_second u T) h k s is = absurd k
  same_sc □ (in_exists T) h k s is = absurd k
  same_sc □ (in_left T f) h k s is = absurd (nothing _ _ (sym (empty_cx C a b (T ⟦ D ⟦ choice p q ⟧ ⟧) f g is) ∙ s))
  same_sc □ (in_right f T) h k s is = absurd (nothing _ _ (sym (empty_cx C a b f (T ⟦ D ⟦ choice p q ⟧ ⟧) g is) ∙ s))
  same_sc □ (in_one T) h k s is = absurd k
  same_sc □ (in_all T) h k s is = absurd k
  same_sc (in_equation v S e) T h k s is = absurd h
  same_sc (in_first S e) T h k s is = absurd h
  same_sc (in_second r S) T h k s is = absurd h
  same_sc (in_exists S) T h k s is = absurd h
  same_sc (in_left S e) □ h k s is = absurd (nothing _ _ (sym (empty_cx D p q (S ⟦ C ⟦ choice a b ⟧ ⟧) e i (sym is)) ∙ sym s))
  same_sc (in_left S e) (in_equation w T f) h k s is = absurd k
  same_sc (in_left S e) (in_first T f) h k s is = absurd k
  same_sc (in_left S e) (in_second u T) h k s is = absurd k
  same_sc (in_left S e) (in_exists T) h k s is = absurd k
  same_sc (in_left S e) (in_left T f) h k s is =
      let m = two _ _ (S ⟦ C ⟦ choice a b ⟧ ⟧) e (T ⟦ D ⟦ choice p q ⟧ ⟧) f (plug_width S _ wa ∙ sym (plug_width T _ wp)) is in
      ap₂ choice (same_sc S T h.0 k.0 (tails _ _ _ _ s) m.0) m.1
  same_sc (in_left S e) (in_right f T) h k s is = absurd (zero_one _ _ s)
  same_sc (in_left S e) (in_one T) h k s is = absurd k
  same_sc (in_left S e) (in_all T) h k s is = absurd k
  same_sc (in_right e S) □ h k s is = absurd (nothing _ _ (sym (empty_cx D p q e (S ⟦ C ⟦ choice a b ⟧ ⟧) i (sym is)) ∙ sym s))
  same_sc (in_right e S) (in_equation w T f) h k s is = absurd k
  same_sc (in_right e S) (in_first T f) h k s is = absurd k
  same_sc (in_right e S) (in_second u T) h k s is = absurd k
  same_sc (in_right e S) (in_exists T) h k s is = absurd k
  same_sc (in_right e S) (in_left T f) h k s is = absurd (zero_one _ _ (sym s))
  same_sc (in_right e S) (in_right f T) h k s is =
      let m = two _ _ e (S ⟦ C ⟦ choice a b ⟧ ⟧) f (T ⟦ D ⟦ choice p q ⟧ ⟧) (wide exp exp e f h.0 k.0) is in
      ap₂ choice m.0 (same_sc S T h.1 k.1 (tails _ _ _ _ s) m.1)
  same_sc (in_right e S) (in_one T) h k s is = absurd k
  same_sc (in_right e S) (in_all T) h k s is = absurd k
  same_sc (in_one S) T h k s is = absurd h
  same_sc (in_all S) T h k s is = absurd h

  same_sx : (S T : Context) → SX S → SX T → place S ++ place C ≡ place T ++ place D → S ⟦ C ⟦ choice a b ⟧ ⟧ ≡ T ⟦ D ⟦ choice p q ⟧ ⟧ → spread S C a b ≡ spread T D p q
  same_sx □ T h k s is = absurd h
  same_sx (in_equation v S e) T h k s is = absurd h
  same_sx (in_first S e) T h k s is = absurd h
  same_sx (in_second r S) T h k s is = absurd h
  same_sx (in_exists S) T h k s is = absurd h
  same_sx (in_left S e) T h k s is = absurd h
  same_sx (in_right e S) T h k s is = absurd h
  same_sx (in_one S) □ h k s is = absurd k
  same_sx (in_one S) (in_equation w T f) h k s is = absurd k
  same_sx (in_one S) (in_first T f) h k s is = absurd k
  same_sx (in_one S) (in_second u T) h k s is = absurd k
  same_sx (in_one S) (in_exists T) h k s is = absurd k
  same_sx (in_one S) (in_left T f) h k s is = absurd k
  same_sx (in_one S) (in_right f T) h k s is = absurd k
  same_sx (in_one S) (in_one T) h k s is = ap one (same_sc S T h k (tails _ _ _ _ s) (ap under is))
  same_sx (in_one S) (in_all T) h k s is = absurd (let t = ap top is in omega (arith, t))
  same_sx (in_all S) □ h k s is = absurd k
  same_sx (in_all S) (in_equation w T f) h k s is = absurd k
  same_sx (in_all S) (in_first T f) h k s is = absurd k
  same_sx (in_all S) (in_second u T) h k s is = absurd k
  same_sx (in_all S) (in_exists T) h k s is = absurd k
  same_sx (in_all S) (in_left T f) h k s is = absurd k
  same_sx (in_all S) (in_right f T) h k s is = absurd k
  same_sx (in_all S) (in_one T) h k s is = absurd (let t = ap top is in omega (arith, t))
  same_sx (in_all S) (in_all T) h k s is = ap all (same_sc S T h k (tails _ _ _ _ s) (ap under is))

-- what stands at the hole of X, by the inner place
module _ (inner : List ℕ) (t : Row) (H : Row → Type 0) (good : (h : Row) → H h → Exp h) (l m : Down X H inner t) where
  pub same_down : (l.C ≡ m.C) × (l.hole ≡ m.hole)
  same_down = same_x l.C m.C l.hole m.hole l.goes m.goes (good l.hole l.there) (good m.hole m.there) (sym l.way ∙ m.way) (sym l.is ∙ m.is)

seq_exp : (q e : Row) → Equ q → Exp e → Exp (seq q e)
unfolding admits kids
seq_exp none e h k = absurd h
seq_exp (node c ks none) e h k = (refl, (h.0, h.1, k), tt)
seq_exp (node c ks (node d js r)) e h k = absurd h.2

pub binds_exp : (h : Row) → Binds h → Exp h
unfolding admits kids
binds_exp h b = subst Exp (sym b.is) (seq_exp (eqn (var b.x) b.v) b.e (refl, beside val (exp ∷ []) (var b.x) b.v (variable_at val 0 b.x refl refl b.letters.0) (value_exp b.v b.letters.1), tt) b.letters.2)

-- x = v; e in one way
pub same_binds : (h k : Row) → h ≡ k → (l : Binds h) (m : Binds k) → (l.x ≡ m.x) × (l.v ≡ m.v) × (l.e ≡ m.e)
same_binds h k e l m =
    let a = two _ _ (eqn (var l.x) l.v) l.e (eqn (var m.x) m.v) m.e refl (sym l.is ∙ e ∙ m.is) in
    let b = two _ _ (var l.x) l.v (var m.x) m.v refl a.0 in
    let p = ap top b.0 in
    (omega (arith, p), b.1, a.1)

-- values of a choice, in one way
no_choice : (c : ℕ) (ks p q : Row) → Val (node c ks none) → node c ks none ≡ choice p q → ⊥
unfolding admits
no_choice c ks p q h e = false≢true (ap (admits val) (sym (ap top e)) ∙ h.0)

same_choices : (vs ws : Row) → Vals vs → Vals ws → 1 ≤ width vs → 1 ≤ width ws → choices vs ≡ choices ws → vs ≡ ws
same_choices none ws g h m n e = absurd (omega arith)
same_choices (node c ks none) none g h m n e = absurd (omega arith)
same_choices (node c ks none) (node d js none) g h m n e = e
same_choices (node c ks none) (node d js (node d' js' s)) g h m n e = absurd (no_choice c ks (node d js none) (choices (node d' js' s)) (g.0, g.1, tt) e)
same_choices (node c ks (node c' ks' r)) none g h m n e = absurd (omega arith)
same_choices (node c ks (node c' ks' r)) (node d js none) g h m n e = absurd (no_choice d js (node c ks none) (choices (node c' ks' r)) (h.0, h.1, tt) (sym e))
same_choices (node c ks (node c' ks' r)) (node d js (node d' js' s)) g h m n e =
    let a = two _ _ (node c ks none) (choices (node c' ks' r)) (node d js none) (choices (node d' js' s)) refl e in
    let i = same_choices (node c' ks' r) (node d' js' s) g.2 h.2 (omega arith) (omega arith) a.1 in
    let x = ap top a.0 in
    let y = ap under a.0 in
    cc (i, x, y)

-- one right side, and one range, of a line
pub record Single (r : Rule) : Type 0 where
  pub same : (inner : List ℕ) (t : Row) (l m : (r inner t).Left) → (r inner t).right l ≡ (r inner t).right m
  pub range : (inner : List ℕ) (t : Row) (l m : (r inner t).Left) → (r inner t).Fits l → (r inner t).Fits m

pub same_pair : (op : ℕ) (t : Row) (l m : Pair (node op none none) t) → (l.k₁ ≡ m.k₁) × (l.k₂ ≡ m.k₂)
same_pair op t l m =
    let e = sym l.is ∙ m.is in
    let p = ap (λ u. top (pick u 0 (1 ∷ 0 ∷ []))) e in
    let q = ap (λ u. top (pick u 0 (1 ∷ 1 ∷ []))) e in
    (omega (arith, p), omega (arith, q))

s1 : Single Lines.app_add
s1 = record {
  same = λ inner t l m. let p = same_pair (cell 2 0 0 0) t l m in ap₂ (λ a b. int (of_z w32 (value a +ℤ value b))) p.0 p.1;
  range = λ inner t l m f. let p = same_pair (cell 2 0 0 0) t l m in subst (λ b. SFits w32 (value m.k₁ +ℤ value b)) p.1 (subst (λ a. SFits w32 (value a +ℤ value l.k₂)) p.0 f);
}

s2 : Single Lines.app_gt
s2 = record { same = λ inner t l m. ap int (same_pair (cell 2 0 0 1) t l m).0; range = λ inner t l m f. tt }

s3 : Single Lines.app_gt_fail
s3 = record { same = λ inner t l m. refl; range = λ inner t l m f. tt }

s4 : Single Lines.app_beta
s4 = record { same = λ inner t l m. let a = two _ _ (lambda l.e) l.v (lambda m.e) m.v refl (sym l.is ∙ m.is) in ap₂ (λ e v. exists (seq (eqn (var 0) (up v)) e)) (ap under a.0) a.1; range = λ inner t l m f. tt }

s5 : Single Lines.app_tup
s5 = record { same = λ inner t l m. let a = two _ _ (tuple l.vs) l.v (tuple m.vs) m.v refl (sym l.is ∙ m.is) in ap₂ (λ vs v. exists (seq (eqn (var 0) (up v)) (choices (arms 0 vs)))) (ap under a.0) a.1; range = λ inner t l m f. tt }

s6 : Single Lines.app_tup_0
s6 = record { same = λ inner t l m. refl; range = λ inner t l m f. tt }

s7 : Single Lines.u_lit
s7 = record { same = λ inner t l m. (two _ _ (eqn (int l.k₁) (int l.k₂)) l.e (eqn (int m.k₁) (int m.k₂)) m.e refl (sym l.is ∙ m.is)).1; range = λ inner t l m f. tt }

s8 : Single Lines.u_tup
s8 = record {
  same = λ inner t l m.
      let a = two _ _ (eqn (tuple l.vs) (tuple l.ws)) l.e (eqn (tuple m.vs) (tuple m.ws)) m.e refl (sym l.is ∙ m.is) in
      let b = two _ _ (tuple l.vs) (tuple l.ws) (tuple m.vs) (tuple m.ws) refl a.0 in
      ap₂ (λ vs ws. equations vs ws l.e) (ap under b.0) (ap under b.1) ∙ ap (equations m.vs m.ws) a.1;
  range = λ inner t l m f. tt;
}

s9 : Single Lines.u_fail
s9 = record { same = λ inner t l m. refl; range = λ inner t l m f. tt }

s10 : Single Lines.u_occurs
s10 = record { same = λ inner t l m. refl; range = λ inner t l m f. tt }

s11 : Single Lines.subst_in
s11 = record {
  same = λ inner t l m.
      let d = same_down inner t Binds binds_exp l m in
      let b = same_binds l.hole m.hole d.1 l.there m.there in
      ap₂ (λ C x. each (replace l.there.v x) C ⟦ seq (eqn (var x) l.there.v) (replace l.there.v x l.there.e) ⟧) d.0 b.0
      ∙ ap₂ (λ v e. each (replace v m.there.x) m.C ⟦ seq (eqn (var m.there.x) v) (replace v m.there.x e) ⟧) b.1 b.2;
  range = λ inner t l m f. tt;
}

s12 : Single Lines.hnf_swap
s12 = record {
  same = λ inner t l m.
      let a = two _ _ (eqn l.h l.v) l.e (eqn m.h m.v) m.e refl (sym l.is ∙ m.is) in
      let b = two _ _ l.h l.v m.h m.v (wide hnf hnf l.h m.h l.letters.0 m.letters.0) a.0 in
      ap₂ (λ h v. seq (eqn v h) l.e) b.0 b.1 ∙ ap (seq (eqn m.v m.h)) a.1;
  range = λ inner t l m f. tt;
}

s13 : Single Lines.var_swap
s13 = record {
  same = λ inner t l m.
      let a = two _ _ (eqn (var l.y) (var l.x)) l.e (eqn (var m.y) (var m.x)) m.e refl (sym l.is ∙ m.is) in
      let b = two _ _ (var l.y) (var l.x) (var m.y) (var m.x) refl a.0 in
      ap₂ (λ y x. seq (eqn x y) l.e) b.0 b.1 ∙ ap (seq (eqn (var m.x) (var m.y))) a.1;
  range = λ inner t l m f. tt;
}

s14 : Single Lines.seq_swap
s14 = record {
  same = λ inner t l m.
      let a = two _ _ l.q (seq (eqn (var l.x) l.v) l.e) m.q (seq (eqn (var m.x) m.v) m.e) (wide equ equ l.q m.q l.letters.0 m.letters.0) (sym l.is ∙ m.is) in
      let b = two _ _ (eqn (var l.x) l.v) l.e (eqn (var m.x) m.v) m.e refl a.1 in
      ap₂ (λ q e. seq (eqn (var l.x) l.v) (seq q e)) a.0 b.1 ∙ ap (λ n. seq n (seq m.q m.e)) b.0;
  range = λ inner t l m f. tt;
}

s15 : Single Lines.val_elim
s15 = record { same = λ inner t l m. (two _ _ l.v l.e m.v m.e (wide val val l.v m.v l.letters.0 m.letters.0) (sym l.is ∙ m.is)).1; range = λ inner t l m f. tt }

s16 : Single Lines.exi_elim
s16 = record { same = λ inner t l m. ap down (ap under (sym l.is ∙ m.is)); range = λ inner t l m f. tt }

-- one path down a context: places of equal bodies
abbrev pub move : (inner rest : List ℕ) (t u : Row) → inner ≡ rest → t ≡ u → Down X Binds inner t → Down X Binds rest u
move inner rest t u p e d = record { C = d.C; goes = d.goes; way = sym p ∙ d.way; hole = d.hole; there = d.there; is = sym e ∙ d.is }

s17 : Single Lines.eqn_elim
s17 = record {
  same = λ inner t l m.
      let r = tails _ _ _ _ (sym l.way ∙ m.way) in
      let e = ap under (sym l.is ∙ m.is) in
      let n = move l.rest m.rest l.body m.body r e l.within in
      let d = same_down m.rest m.body Binds binds_exp n m.within in
      let b = same_binds l.within.hole m.within.hole d.1 l.within.there m.within.there in
      ap₂ (λ C e. down (C ⟦ e ⟧)) d.0 b.2;
  range = λ inner t l m f. tt;
}

s18 : Single Lines.fail_elim
s18 = record { same = λ inner t l m. refl; range = λ inner t l m f. tt }

exists_exp : (h : Row) → Lines.Exists h → Exp h
unfolding admits kids
exists_exp h b = subst Exp (sym b.is) (refl, b.letters, tt)

s19 : Single Lines.exi_float
s19 = record {
  same = λ inner t l m.
      let d = same_down inner t Lines.Exists exists_exp l m in
      let e = ap under (sym l.there.is ∙ d.1 ∙ m.there.is) in
      ap₂ (λ C e. exists (each up C ⟦ e ⟧)) d.0 e;
  range = λ inner t l m f. tt;
}

s20 : Single Lines.seq_assoc
s20 = record {
  same = λ inner t l m.
      let a = two _ _ (seq l.q l.e₁) l.e₂ (seq m.q m.e₁) m.e₂ refl (sym l.is ∙ m.is) in
      let b = two _ _ l.q l.e₁ m.q m.e₁ (wide equ equ l.q m.q l.letters.0 m.letters.0) a.0 in
      ap₂ (λ q e. seq q (seq e l.e₂)) b.0 b.1 ∙ ap (λ e. seq m.q (seq m.e₁ e)) a.1;
  range = λ inner t l m f. tt;
}

s21 : Single Lines.eqn_float
s21 = record {
  same = λ inner t l m.
      let a = two _ _ (eqn l.v (seq l.q l.e₁)) l.e₂ (eqn m.v (seq m.q m.e₁)) m.e₂ refl (sym l.is ∙ m.is) in
      let b = two _ _ l.v (seq l.q l.e₁) m.v (seq m.q m.e₁) (wide val val l.v m.v l.letters.0 m.letters.0) a.0 in
      let c = two _ _ l.q l.e₁ m.q m.e₁ (wide equ equ l.q m.q l.letters.1 m.letters.1) b.1 in
      ap₂ (λ q e. seq q (seq (eqn l.v e) l.e₂)) c.0 c.1 ∙ ap₂ (λ v e. seq m.q (seq (eqn v m.e₁) e)) b.0 a.1;
  range = λ inner t l m f. tt;
}

s22 : Single Lines.exi_swap
s22 = record { same = λ inner t l m. ap (λ e. exists (exists (exchange e))) (ap (λ u. under (under u)) (sym l.is ∙ m.is)); range = λ inner t l m f. tt }

s23 : Single Lines.one_fail
s23 = record { same = λ inner t l m. refl; range = λ inner t l m f. tt }

s24 : Single Lines.one_value
s24 = record { same = λ inner t l m. ap under (sym l.is ∙ m.is); range = λ inner t l m f. tt }

s25 : Single Lines.one_choice
s25 = record {
  same = λ inner t l m.
      (two (cell 10 0 2 0) (cell 10 0 2 0) l.v l.e m.v m.e (wide val val l.v m.v l.letters.0 m.letters.0) (ap under (sym l.is ∙ m.is))).0;
  range = λ inner t l m f. tt;
}

s26 : Single Lines.all_fail
s26 = record { same = λ inner t l m. refl; range = λ inner t l m f. tt }

s27 : Single Lines.all_value
s27 = record { same = λ inner t l m. ap tuple (ap under (sym l.is ∙ m.is)); range = λ inner t l m f. tt }

s28 : Single Lines.all_choice
s28 = record {
  same = λ inner t l m.
      let p = l.many.0 in
      let q = m.many.0 in
      ap tuple (same_choices l.vs m.vs l.letters m.letters (omega (arith, p)) (omega (arith, q)) (ap under (sym l.is ∙ m.is)));
  range = λ inner t l m f. tt;
}

s29 : Single Lines.choose_r
s29 = record { same = λ inner t l m. (two (cell 10 0 2 0) (cell 10 0 2 0) fail l.e fail m.e refl (sym l.is ∙ m.is)).1; range = λ inner t l m f. tt }

s30 : Single Lines.choose_l
s30 = record { same = λ inner t l m. (two (cell 10 0 2 0) (cell 10 0 2 0) l.e fail m.e fail (wide exp exp l.e m.e l.letters m.letters) (sym l.is ∙ m.is)).0; range = λ inner t l m f. tt }

s31 : Single Lines.choose_assoc
s31 = record {
  same = λ inner t l m.
      let a = two _ _ (choice l.e₁ l.e₂) l.e₃ (choice m.e₁ m.e₂) m.e₃ refl (sym l.is ∙ m.is) in
      let b = two _ _ l.e₁ l.e₂ m.e₁ m.e₂ (wide exp exp l.e₁ m.e₁ l.letters.0 m.letters.0) a.0 in
      ap₂ (λ e f. choice e (choice f l.e₃)) b.0 b.1 ∙ ap (λ e. choice m.e₁ (choice m.e₂ e)) a.1;
  range = λ inner t l m f. tt;
}

s32 : Single Lines.choose
s32 = record {
  same = λ inner t l m.
      same_sx l.C m.C l.e₁ l.e₂ m.e₁ m.e₂ l.goes.1 m.goes.1 l.letters.0 l.letters.1 m.letters.0 m.letters.1
      l.S m.S l.goes.0 m.goes.0 (sym l.way ∙ m.way) (sym l.is ∙ m.is);
  range = λ inner t l m f. tt;
}

-- every line of a list, and the line of a number
abbrev Singles : List Rule → Type 0
Singles [] = Unit {0}
Singles (r ∷ rs) = Single r × Singles rs

pub singles : Singles figure
singles = (s1, (s2, (s3, (s4, (s5, (s6, (s7, (s8, (s9, (s10, (s11, (s12, (s13, (s14, (s15, (s16, (s17, (s18, (s19, (s20, (s21, (s22, (s23, (s24, (s25, (s26, (s27, (s28, (s29, (s30, (s31, (s32, tt))))))))))))))))))))))))))))))))

chosen : (rs : List Rule) (i : ℕ) (d : Rule) → Singles rs → Single d → Single (get_or rs i d)
chosen [] i d h k = k
chosen (r ∷ rs) zero d h k = h.0
chosen (r ∷ rs) (suc i) d h k = chosen rs i d h.1 k

single : (n : ℕ) → Single (line n)
single n = chosen figure (n - 1) (λ inner t. Line.always ⊥ (λ l. t)) singles (record { same = λ inner t l m. absurd l; range = λ inner t l m f. absurd l })

pub one_answer : OneAnswer
one_answer n argument inner t a b g h = answer (HasRule n) (Apt n argument inner) (line n inner t) ((single n).same inner t, (single n).range inner t) a b g h
