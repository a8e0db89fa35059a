-- The rewrite rules, a definition for each line of the figure. A line has a left side, which the redex, down the
-- inner place, has or has not (12); the words after "if" or "unless" (13); and a right side. k, x, y are
-- payloads; v, e, eq (here q), hnf (here h) are the grammar's letters; the nearest binder is 0.
use Rattle.std.specs.Prelude.{◌≡◌, ℕ, suc, ◌^◌, ◌<◌, ◌≤◌, List, ◌∷◌, ◌++◌, ℤ, ◌+ℤ◌, ◌≤ℤ◌, ◌<ℤ◌, FitsSigned}
use Rattle.std.specs.Int.{w32}
use mir.Val.{to_z, of_z}
use Rattle.calculus.specs.Line.{Line, always, only_if, Gives}
use Rattle.terms.specs.Rows.{Row, width, kind_of, ◌&◌, var, Free, up, down, exchange, replace}
use Rattle.terms.specs.Rows.Row.{none, node}
use Rattle.verse.specs.Syntax.{int, add, gt, tuple, lambda, app, seq, eqn, exists, fail, choice, one, all, Val, Hnf, Exp, Equ, Vals}
use Rattle.verse.specs.Contexts.{Context, ◌⟦◌⟧, place, X, CX, SX, each, Down, V, ◌⟨◌⟩, Nonempty}

-- of an inner place and a redex
abbrev pub Rule : Type 1
Rule = List ℕ → Row → Line

-- a payload of 32 bits: of an integer or a variable
abbrev pub Word : ℕ → Type 0
Word k = k < 2 ^ 32

-- the integer of a payload
abbrev pub value : ℕ → ℤ
value k = to_z w32 k

-- ── Application ──

-- op⟨k1, k2⟩
pub record Pair (op t : Row) : Type 0 where
  pub k₁ : ℕ
  pub k₂ : ℕ
  pub letters : Word k₁ × Word k₂
  pub is : t ≡ app op (tuple (int k₁ & int k₂))

-- 1 APP-ADD   add⟨k1, k2⟩ ⟶ k3   where k3 = k1 + k2
abbrev pub sum : {t : Row} → Pair add t → ℤ
sum l = value l.k₁ +ℤ value l.k₂

abbrev pub app_add : Rule
app_add inner t = record { Left = Pair add t; If = λ l. Unit {0}; Fits = λ l. FitsSigned w32 (sum l); right = λ l. int (of_z w32 (sum l)) }

-- 2 APP-GT   gt⟨k1, k2⟩ ⟶ k1   if k1 > k2
abbrev pub app_gt : Rule
app_gt inner t = only_if (Pair gt t) (λ l. value l.k₂ <ℤ value l.k₁) (λ l. int l.k₁)

-- 3 APP-GT-FAIL   gt⟨k1, k2⟩ ⟶ fail   if k1 ≤ k2
abbrev pub app_gt_fail : Rule
app_gt_fail inner t = only_if (Pair gt t) (λ l. value l.k₁ ≤ℤ value l.k₂) (λ l. fail)

-- 4 APP-BETA   (λx. e)(v) ⟶ ∃x. x = v; e
pub record Beta (t : Row) : Type 0 where
  pub e : Row
  pub v : Row
  pub letters : Exp e × Val v
  pub is : t ≡ app (lambda e) v

abbrev pub app_beta : Rule
app_beta inner t = always (Beta t) (λ l. exists (seq (eqn (var 0) (up l.v)) l.e))

-- (x = i; v_i), (x = i+1; v_i+1), .. with x the nearest binder, new above each v
abbrev pub arms : ℕ → Row → Row
arms i none = none
arms i (node c ks r) = seq (eqn (var 0) (int i)) (up (node c ks none)) & arms (suc i) r

-- e1 | .. | en, grouped to the right; of one, itself
abbrev pub choices : Row → Row
choices none = fail
choices (node c ks none) = node c ks none
choices (node c ks (node d js r)) = choice (node c ks none) (choices (node d js r))

-- 5 APP-TUP   ⟨v0, .., vn⟩(v) ⟶ ∃x. x = v; (x = 0; v0) | .. | (x = n; vn)
pub record Index (t : Row) : Type 0 where
  pub vs : Row
  pub v : Row
  pub letters : Vals vs × Val v
  pub some : 1 ≤ width vs
  pub is : t ≡ app (tuple vs) v

abbrev pub app_tup : Rule
app_tup inner t = always (Index t) (λ l. exists (seq (eqn (var 0) (up l.v)) (choices (arms 0 l.vs))))

-- 6 APP-TUP-0   ⟨⟩(v) ⟶ fail
pub record Index0 (t : Row) : Type 0 where
  pub v : Row
  pub letters : Val v
  pub is : t ≡ app (tuple none) v

abbrev pub app_tup_0 : Rule
app_tup_0 inner t = always (Index0 t) (λ l. fail)

-- ── Unification ──

-- 7 U-LIT   k1 = k2; e ⟶ e   if k1 = k2
pub record Literals (t : Row) : Type 0 where
  pub k₁ : ℕ
  pub k₂ : ℕ
  pub e : Row
  pub letters : Word k₁ × Word k₂ × Exp e
  pub is : t ≡ seq (eqn (int k₁) (int k₂)) e

abbrev pub u_lit : Rule
u_lit inner t = only_if (Literals t) (λ l. l.k₁ ≡ l.k₂) (λ l. l.e)

-- v1 = w1; ..; vn = wn; e
abbrev pub equations : Row → Row → Row → Row
equations none none e = e
equations none (node d js s) e = e
equations (node c ks r) none e = e
equations (node c ks r) (node d js s) e = seq (eqn (node c ks none) (node d js none)) (equations r s e)

-- 8 U-TUP   ⟨v1, .., vn⟩ = ⟨w1, .., wn⟩; e ⟶ v1 = w1; ..; vn = wn; e
pub record Tuples (t : Row) : Type 0 where
  pub vs : Row
  pub ws : Row
  pub e : Row
  pub letters : Vals vs × Vals ws × Exp e
  pub same : width vs ≡ width ws
  pub is : t ≡ seq (eqn (tuple vs) (tuple ws)) e

abbrev pub u_tup : Rule
u_tup inner t = always (Tuples t) (λ l. equations l.vs l.ws l.e)

-- 9 U-FAIL   h1 = h2; e ⟶ fail   if U-LIT, U-TUP do not match and neither h1 nor h2 is a lambda
pub record Heads (t : Row) : Type 0 where
  pub h₁ : Row
  pub h₂ : Row
  pub e : Row
  pub letters : Hnf h₁ × Hnf h₂ × Exp e
  pub is : t ≡ seq (eqn h₁ h₂) e

abbrev pub NotLambda : Row → Type 0
NotLambda v = kind_of v ≡ 4 → ⊥

abbrev pub u_fail : Rule
u_fail inner t =
    only_if (Heads t)
    (λ l. ((u : Row) → Gives (u_lit inner t) u → ⊥) × ((u : Row) → Gives (u_tup inner t) u → ⊥) × NotLambda l.h₁ × NotLambda l.h₂)
    (λ l. fail)

-- x = v; e
pub record Binds (t : Row) : Type 0 where
  pub x : ℕ
  pub v : Row
  pub e : Row
  pub letters : Word x × Val v × Exp e
  pub is : t ≡ seq (eqn (var x) v) e

-- v = V[x] with V ≠ □: x lies in v under one or more tuples and nothing else
abbrev pub Deep : ℕ → Row → Type 0
Deep x v = (W : V) × Nonempty W × (v ≡ W ⟨ var x ⟩)

-- v = V[x]: that, or v is x
abbrev pub Holds : ℕ → Row → Type 0
Holds x v = (W : V) × (v ≡ W ⟨ var x ⟩)

-- 10 U-OCCURS   x = V[x]; e ⟶ fail   if V ≠ □
abbrev pub u_occurs : Rule
u_occurs inner t = only_if (Binds t) (λ l. Deep l.x l.v) (λ l. fail)

-- 11 SUBST   X[x = v; e] ⟶ (X{v/x})[x = v; e{v/x}]   if v ≠ V[x]
abbrev pub subst_in : Rule
subst_in inner t =
    only_if (Down X Binds inner t)
    (λ l. Holds l.there.x l.there.v → ⊥)
    (λ l. each (replace l.there.v l.there.x) l.C
    ⟦ seq (eqn (var l.there.x) l.there.v) (replace l.there.v l.there.x l.there.e) ⟧)

-- 12 HNF-SWAP   h = v; e ⟶ v = h; e
pub record Headed (t : Row) : Type 0 where
  pub h : Row
  pub v : Row
  pub e : Row
  pub letters : Hnf h × Val v × Exp e
  pub is : t ≡ seq (eqn h v) e

abbrev pub hnf_swap : Rule
hnf_swap inner t = always (Headed t) (λ l. seq (eqn l.v l.h) l.e)

-- 13 VAR-SWAP   y = x; e ⟶ x = y; e   if x < y
pub record Variables (t : Row) : Type 0 where
  pub y : ℕ
  pub x : ℕ
  pub e : Row
  pub letters : Word y × Word x × Exp e
  pub is : t ≡ seq (eqn (var y) (var x)) e

abbrev pub var_swap : Rule
var_swap inner t = only_if (Variables t) (λ l. l.x < l.y) (λ l. seq (eqn (var l.x) (var l.y)) l.e)

-- 14 SEQ-SWAP   q; x = v; e ⟶ x = v; q; e   unless (q is y = v' and y ≤ x)
pub record Late (t : Row) : Type 0 where
  pub q : Row
  pub x : ℕ
  pub v : Row
  pub e : Row
  pub letters : Equ q × Word x × Val v × Exp e
  pub is : t ≡ seq q (seq (eqn (var x) v) e)

abbrev pub seq_swap : Rule
seq_swap inner t =
    only_if (Late t)
    (λ l. (y : ℕ) (v' : Row) → Word y → Val v' → l.q ≡ eqn (var y) v' → y ≤ l.x → ⊥)
    (λ l. seq (eqn (var l.x) l.v) (seq l.q l.e))

-- ── Elimination ──

-- 15 VAL-ELIM   v; e ⟶ e
pub record Valued (t : Row) : Type 0 where
  pub v : Row
  pub e : Row
  pub letters : Val v × Exp e
  pub is : t ≡ seq v e

abbrev pub val_elim : Rule
val_elim inner t = always (Valued t) (λ l. l.e)

-- ∃x. e
pub record Exists (t : Row) : Type 0 where
  pub e : Row
  pub letters : Exp e
  pub is : t ≡ exists e

-- 16 EXI-ELIM   ∃x. e ⟶ e   if x ∉ fvs(e)
abbrev pub exi_elim : Rule
exi_elim inner t = only_if (Exists t) (λ l. Free 0 l.e → ⊥) (λ l. down l.e)

-- 17 EQN-ELIM   ∃x. X[x = v; e] ⟶ X[e]   if x ∉ fvs(X[e]) and v ≠ V[x]
pub record Local (inner : List ℕ) (t : Row) : Type 0 where
  pub body : Row
  pub is : t ≡ exists body
  pub rest : List ℕ
  pub way : inner ≡ 0 ∷ rest
  pub within : Down X Binds rest body
  pub own : within.there.x ≡ 0

abbrev pub eqn_elim : Rule
eqn_elim inner t =
    only_if (Local inner t)
    (λ l. (Free 0 (l.within.C ⟦ l.within.there.e ⟧) → ⊥) × (Holds 0 l.within.there.v → ⊥))
    (λ l. down (l.within.C ⟦ l.within.there.e ⟧))

-- 18 FAIL-ELIM   X[fail] ⟶ fail
abbrev pub fail_elim : Rule
fail_elim inner t = always (Down X (λ h. h ≡ fail) inner t) (λ l. fail)

-- ── Normalization ──

-- 19 EXI-FLOAT   X[∃x. e] ⟶ ∃x. X[e]
abbrev pub exi_float : Rule
exi_float inner t = always (Down X Exists inner t) (λ l. exists (each up l.C ⟦ l.there.e ⟧))

-- 20 SEQ-ASSOC   (q; e1); e2 ⟶ q; (e1; e2)
pub record Nested (t : Row) : Type 0 where
  pub q : Row
  pub e₁ : Row
  pub e₂ : Row
  pub letters : Equ q × Exp e₁ × Exp e₂
  pub is : t ≡ seq (seq q e₁) e₂

abbrev pub seq_assoc : Rule
seq_assoc inner t = always (Nested t) (λ l. seq l.q (seq l.e₁ l.e₂))

-- 21 EQN-FLOAT   v = (q; e1); e2 ⟶ q; (v = e1; e2)
pub record Enclosed (t : Row) : Type 0 where
  pub v : Row
  pub q : Row
  pub e₁ : Row
  pub e₂ : Row
  pub letters : Val v × Equ q × Exp e₁ × Exp e₂
  pub is : t ≡ seq (eqn v (seq q e₁)) e₂

abbrev pub eqn_float : Rule
eqn_float inner t = always (Enclosed t) (λ l. seq l.q (seq (eqn l.v l.e₁) l.e₂))

-- 22 EXI-SWAP   ∃x. ∃y. e ⟶ ∃y. ∃x. e
pub record Exists2 (t : Row) : Type 0 where
  pub e : Row
  pub letters : Exp e
  pub is : t ≡ exists (exists e)

abbrev pub exi_swap : Rule
exi_swap inner t = always (Exists2 t) (λ l. exists (exists (exchange l.e)))

-- ── Choice ──

-- 23 ONE-FAIL   one{fail} ⟶ fail
abbrev pub one_fail : Rule
one_fail inner t = always (t ≡ one fail) (λ l. fail)

-- one{v} or all{v}, by what stands round the brackets
pub record Around (scope : Row → Row) (t : Row) : Type 0 where
  pub v : Row
  pub letters : Val v
  pub is : t ≡ scope v

-- 24 ONE-VALUE   one{v} ⟶ v
abbrev pub one_value : Rule
one_value inner t = always (Around one t) (λ l. l.v)

-- 25 ONE-CHOICE   one{v | e} ⟶ v
pub record First (t : Row) : Type 0 where
  pub v : Row
  pub e : Row
  pub letters : Val v × Exp e
  pub is : t ≡ one (choice v e)

abbrev pub one_choice : Rule
one_choice inner t = always (First t) (λ l. l.v)

-- 26 ALL-FAIL   all{fail} ⟶ ⟨⟩
abbrev pub all_fail : Rule
all_fail inner t = always (t ≡ all fail) (λ l. tuple none)

-- 27 ALL-VALUE   all{v} ⟶ ⟨v⟩
abbrev pub all_value : Rule
all_value inner t = always (Around all t) (λ l. tuple l.v)

-- 28 ALL-CHOICE   all{v1 | .. | vn} ⟶ ⟨v1, .., vn⟩, of 2 to 255 values
pub record Values (t : Row) : Type 0 where
  pub vs : Row
  pub letters : Vals vs
  pub many : (2 ≤ width vs) × (width vs ≤ 255)
  pub is : t ≡ all (choices vs)

abbrev pub all_choice : Rule
all_choice inner t = always (Values t) (λ l. tuple l.vs)

-- 29 CHOOSE-R   fail | e ⟶ e
abbrev pub choose_r : Rule
choose_r inner t = always (record { e : Row; letters : Exp e; is : t ≡ choice fail e }) (λ l. l.e)

-- 30 CHOOSE-L   e | fail ⟶ e
abbrev pub choose_l : Rule
choose_l inner t = always (record { e : Row; letters : Exp e; is : t ≡ choice e fail }) (λ l. l.e)

-- 31 CHOOSE-ASSOC   (e1 | e2) | e3 ⟶ e1 | (e2 | e3)
pub record Choices (t : Row) : Type 0 where
  pub e₁ : Row
  pub e₂ : Row
  pub e₃ : Row
  pub letters : Exp e₁ × Exp e₂ × Exp e₃
  pub is : t ≡ choice (choice e₁ e₂) e₃

abbrev pub choose_assoc : Rule
choose_assoc inner t = always (Choices t) (λ l. choice l.e₁ (choice l.e₂ l.e₃))

-- 32 CHOOSE   SX[CX[e1 | e2]] ⟶ SX[CX[e1] | CX[e2]]
pub record Scoped (inner : List ℕ) (t : Row) : Type 0 where
  pub S : Context
  pub C : Context
  pub e₁ : Row
  pub e₂ : Row
  pub goes : SX S × CX C
  pub letters : Exp e₁ × Exp e₂
  pub way : inner ≡ place S ++ place C
  pub is : t ≡ S ⟦ C ⟦ choice e₁ e₂ ⟧ ⟧

abbrev pub choose : Rule
choose inner t = always (Scoped inner t) (λ l. l.S ⟦ choice (l.C ⟦ l.e₁ ⟧) (l.C ⟦ l.e₂ ⟧) ⟧)
