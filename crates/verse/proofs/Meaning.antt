-- What every calculus owes, of the Verse calculus, from the two laws of its rules. Assumes nothing.
use Rattle.std.proofs.Common.{◌≡◌, ℕ, ◌^◌, ◌<◌, ◌≤◌, Bool, true, false, cond, ◌&&◌, ◌||◌, eqb, leb, ◌⊎◌, List, [], ◌∷◌, ◌++◌, length, Result, sym, refl, ap, ◌∙◌, subst, inl, inr, ⊎_elim, arith}
use lib.ListN.{length-replicate}
use Rattle.std.proofs.lemmas.Bool.{and_parts, or_cases}
use Rattle.std.proofs.lemmas.Bool.Decides.{nat_tests}
use Rattle.terms.specs.Cells.{kind, binder, children, zeros, payload, form, Fields}
use Rattle.terms.specs.Rows.{Row, size, width, var, replace, «for», Counted, Formed, Place}
use Rattle.terms.specs.Rows.Row.{none, node}
use Rattle.calculus.specs.Line.{Gives}
use Rattle.terms.specs.Grammar as Grammar
use Rattle.terms.proofs.Inject.{lawful_width}
use Rattle.terms.proofs.Bridge.{bare_word, at_place, formed_counted, lawful_formed, place_join, size-&, substitute_size}
use Rattle.calculus.specs.Answers.{Judged}
use Rattle.calculus.proofs.Figures.{laws_from}
use Rattle.calculus.proofs.Judges.{judged}
use Rattle.verse.specs.Syntax.{Sort, plain, head_cell, value_cell, expression_cell, admits, kids, children_of, choice, seq, eqn, fail, Calls, Lawful, Term, Exp}
use Rattle.verse.specs.Syntax.Sort.{val, hnf, exp, equ}
use Rattle.verse.specs.Contexts.{Context, ◌⟦◌⟧, place, X, Down, each}
use Rattle.verse.specs.Contexts.Context.{□, in_equation, in_first, in_second, in_exists, in_left, in_right, in_one, in_all}
use Rattle.verse.specs.Lines.{Binds, Exists, Local, Scoped}
use Rattle.verse.specs.Figure.{HasInner, line}
use Rattle.verse.specs.Meaning.{verse, meaning, Suffices, BothForms}
use Rattle.verse.proofs.Laws.{beside, plug_cx}
use Rattle.verse.proofs.Places.{places, sites}
use Rattle.verse.proofs.Unique.{one_answer, binds_exp}

-- what a cell owes to the layout
record Good (c : ℕ) : Type 0 where
  small : c < 2 ^ 64
  blank : zeros c ≡ 0
  under : binder c ≤ children c
  bare : kind c ≡ 0 → c < 2 ^ 32
  counts : length (children_of (kind c) (children c)) ≡ children c

-- a cell of a form is good, if the form is
form_good : (k b n c : ℕ) → k ≤ 12 → b ≤ n → (k ≡ 0 → n ≡ 0) → length (children_of k n) ≡ n → form k b n c ≡ true → Good c
form_good k b n c kl bl leaf l h =
    let ek : kind c ≡ k = grind (arith, nat_tests) in
    let eb : binder c ≡ b = grind (arith, nat_tests) in
    let en : children c ≡ n = grind (arith, nat_tests) in
    let ez : zeros c ≡ 0 = grind (arith, nat_tests) in
    let s : c < 2 ^ 64 = omega (arith, ek) in
    let fields : Fields c = record { blank = ez; bound = λ e. omega (arith, eb, en, e); bare = λ z. let m = leaf (sym ek ∙ z) in (omega (arith, eb, en, m), omega (arith, en, m)) } in
    record { small = s; blank = ez; under = omega (arith, eb, en); bare = bare_word c s fields; counts = ap (λ z. length (children_of z (children c))) ek ∙ ap (λ z. length (children_of k z)) en ∙ l ∙ sym en }

plain_good : (k b n c : ℕ) → k ≤ 12 → b ≤ n → (k ≡ 0 → n ≡ 0) → length (children_of k n) ≡ n → plain k b n c ≡ true → Good c
plain_good k b n c kl bl leaf l h = form_good k b n c kl bl leaf l (and_parts (form k b n c) (eqb (payload c) 0) h).0

head_good : (c : ℕ) → head_cell c ≡ true → Good c
head_good c h =
    ⊎_elim (form_good 1 0 0 c (omega arith) (omega arith) (λ e. refl) refl)
    (λ x. ⊎_elim (λ y. form_good 2 0 0 c (omega arith) (omega arith) (λ e. refl) refl (and_parts (form 2 0 0 c) _ y).0)
    (λ y. ⊎_elim (λ z. plain_good 3 0 (children c) c (omega arith) (omega arith) (λ e. absurd (omega (arith, e))) (length-replicate (children c) val) (and_parts (plain 3 0 (children c) c) _ z).0)
    (plain_good 4 1 1 c (omega arith) (omega arith) (λ e. absurd (omega (arith, e))) refl)
    (or_cases (plain 3 0 (children c) c && leb (children c) 255) (plain 4 1 1 c) y))
    (or_cases (form 2 0 0 c && leb (payload c) 1) (plain 3 0 (children c) c && leb (children c) 255 || plain 4 1 1 c) x))
    (or_cases (form 1 0 0 c) (form 2 0 0 c && leb (payload c) 1 || (plain 3 0 (children c) c && leb (children c) 255 || plain 4 1 1 c)) h)

value_good : (c : ℕ) → value_cell c ≡ true → Good c
value_good c h = ⊎_elim (form_good 0 0 0 c (omega arith) (omega arith) (λ e. refl) refl) (head_good c) (or_cases (form 0 0 0 c) (head_cell c) h)

-- one form after another
or_plain : (k b n c : ℕ) → k ≤ 12 → b ≤ n → (k ≡ 0 → n ≡ 0) → length (children_of k n) ≡ n → (more : Bool) → (more ≡ true → Good c) → plain k b n c || more ≡ true → Good c
or_plain k b n c kl bl leaf l more f h = ⊎_elim (plain_good k b n c kl bl leaf l) f (or_cases (plain k b n c) more h)

exp_good : (c : ℕ) → expression_cell c ≡ true → Good c
exp_good c h =
    ⊎_elim (value_good c)
    (or_plain 5 0 2 c (omega arith) (omega arith) (λ e. absurd (omega (arith, e))) refl _
    (or_plain 6 0 2 c (omega arith) (omega arith) (λ e. absurd (omega (arith, e))) refl _
    (or_plain 8 1 1 c (omega arith) (omega arith) (λ e. absurd (omega (arith, e))) refl _
    (or_plain 9 0 0 c (omega arith) (omega arith) (λ e. refl) refl _
    (or_plain 10 0 2 c (omega arith) (omega arith) (λ e. absurd (omega (arith, e))) refl _
    (or_plain 11 0 1 c (omega arith) (omega arith) (λ e. absurd (omega (arith, e))) refl _
    (plain_good 12 0 1 c (omega arith) (omega arith) (λ e. absurd (omega (arith, e))) refl)))))))
    (or_cases (value_cell c) (plain 5 0 2 c || (plain 6 0 2 c || (plain 8 1 1 c || (plain 9 0 0 c || (plain 10 0 2 c || (plain 11 0 1 c || plain 12 0 1 c)))))) h)

good : (s : Sort) (c : ℕ) → admits s c ≡ true → Good c
unfolding admits
good val c a = value_good c a
good hnf c a = head_good c a
good exp c a = exp_good c a
good equ c a =
    ⊎_elim (exp_good c) (plain_good 7 0 2 c (omega arith) (omega arith) (λ e. absurd (omega (arith, e))) refl) (or_cases (expression_cell c) (plain 7 0 2 c) a)

pub word : (s : Sort) (c : ℕ) → admits s c ≡ true → (c < 2 ^ 64) × (zeros c ≡ 0) × (binder c ≤ children c) × (kind c ≡ 0 → c < 2 ^ 32)
word s c a = let g = good s c a in (g.small, g.blank, g.under, g.bare)

pub arity : (s : Sort) (c : ℕ) → admits s c ≡ true → length (kids s c) ≡ children c
unfolding kids
arity s c a = (good s c a).counts

pub formed : (t : Row) → Term t → (width t ≡ 1) × Formed t
formed t h = (lawful_width admits kids (exp ∷ []) t h, lawful_formed admits kids word arity (exp ∷ []) t h)

pub lawful_counted : (ss : List Sort) (t : Row) → Lawful ss t → Counted t
lawful_counted ss t h = formed_counted t (lawful_formed admits kids word arity ss t h)

root : (t : Row) → width t ≡ 1 → Place t 0 []
root none w = absurd (omega arith)
root (node c ks r) w = tt

choice_exp : (a b : Row) → Exp a → Exp b → Exp (choice a b)
unfolding admits kids
choice_exp a b h k = (refl, beside exp (exp ∷ []) a b h k, tt)

exists_exp : (h : Row) → Exists h → Exp h
unfolding admits kids
exists_exp h l = subst Exp (sym l.is) (refl, l.letters, tt)

fail_exp : (h : Row) → h ≡ fail → Exp h
unfolding admits kids
fail_exp h e = subst Exp (sym e) (refl, tt, tt)

-- a hole is a part
down_place : (H : Row → Type 0) → ((h : Row) → H h → Exp h) → (inner : List ℕ) (t : Row) → Down X H inner t → Place t 0 inner
down_place H good inner t l =
    subst (λ p. Place t 0 p) (sym l.way) (subst (λ r. Place r 0 (place l.C)) (sym l.is) (places l.C l.hole (inl l.goes) (good l.hole l.there)).named)

local_place : (inner : List ℕ) (t : Row) → Local inner t → Place t 0 inner
local_place inner t l =
    subst (λ p. Place t 0 p) (sym l.way) (subst (λ r. Place r 0 (0 ∷ l.rest)) (sym l.is) (down_place Binds binds_exp l.rest l.body l.within))

scoped_place : (inner : List ℕ) (t : Row) → Scoped inner t → Place t 0 inner
scoped_place inner t l =
    let e = choice_exp l.e₁ l.e₂ l.letters.0 l.letters.1 in
    let h = l.C ⟦ choice l.e₁ l.e₂ ⟧ in
    let outer = places l.S h (inr (inr l.goes.0)) (plug_cx l.C (choice l.e₁ l.e₂) l.goes.1 e) in
    let under = places l.C (choice l.e₁ l.e₂) (inr (inl l.goes.1)) e in
    subst (λ p. Place t 0 p) (sym l.way) (subst (λ r. Place r 0 (place l.S ++ place l.C)) (sym l.is) (place_join (l.S ⟦ h ⟧) 0 (place l.S) (place l.C) outer.named (subst (λ r. Place r 0 (place l.C)) (sym outer.picked) under.named)))

named : (n : ℕ) (inner : List ℕ) (t u : Row) → Term t → HasInner n ⊎ (inner ≡ []) → Gives (line n inner t) u → Place t 0 inner
named n inner t u h (inr e) g = subst (λ p. Place t 0 p) (sym e) (root t (formed t h).0)
named n inner t u h (inl (inl e)) g = down_place Binds binds_exp inner t (subst (λ k. Gives (line k inner t) u) e g).0
named n inner t u h (inl (inr (inl e))) g = local_place inner t (subst (λ k. Gives (line k inner t) u) e g).0
named n inner t u h (inl (inr (inr (inl e)))) g = down_place (λ h. h ≡ fail) fail_exp inner t (subst (λ k. Gives (line k inner t) u) e g).0
named n inner t u h (inl (inr (inr (inr (inl e))))) g = down_place Exists exists_exp inner t (subst (λ k. Gives (line k inner t) u) e g).0
named n inner t u h (inl (inr (inr (inr (inr e))))) g = scoped_place inner t (subst (λ k. Gives (line k inner t) u) e g).0

pub suffices : Suffices
suffices laws =
    laws_from verse (record {
      formed = formed;
      sites = λ t p h s. at_place admits kids Calls (exp ∷ []) t 0 p s;
      ruled = λ n h. omega (arith, h.1);
      named = λ n argument inner t u a g. named n inner t u a.lawful a.apt.1 g;
      answer = λ n argument inner t a b. one_answer n argument inner t a b;
      given = λ n argument inner t u a g l. (laws n a.has_rule).0 inner t u a.lawful a.low g l;
      kept = λ whole p u h s k. (sites whole p h s).1 u k;
      second = λ n argument inner t u a g l. (laws n a.has_rule).1 inner t u a.lawful a.low g l;
    })

pub both_forms : BothForms
both_forms n a = (
  (λ inner t u h g. a.0 inner t u h.lawful h.low g, λ inner t u h g x. a.1 inner t u h.lawful h.low g x),
  (λ inner t u h b g l. a.0 inner t u h b g, λ inner t u h b g l x. a.1 inner t u h b g x),
)

-- SUBST shrinks no redex
every : (C : Context) (h k : Row) (f : Row → Row) → ((s : Sort) (r : Row) → Lawful (s ∷ []) r → size r ≤ size (f r)) → X C → size h ≤ size k → size (C ⟦ h ⟧) ≤ size (each f C ⟦ k ⟧)
every □ h k f g x l = l
every (in_equation v C e) h k f g x l =
    omega (arith, every C h k f g x.1 l, g val v x.0, g exp e x.2, size-& (eqn v (C ⟦ h ⟧)) e, size-& v (C ⟦ h ⟧), size-& (eqn (f v) (each f C ⟦ k ⟧)) (f e), size-& (f v) (each f C ⟦ k ⟧))
every (in_first C e) h k f g x l = omega (arith, every C h k f g x.0 l, g exp e x.1, size-& (C ⟦ h ⟧) e, size-& (each f C ⟦ k ⟧) (f e))
every (in_second q C) h k f g x l = omega (arith, every C h k f g x.1 l, g equ q x.0, size-& q (C ⟦ h ⟧), size-& (f q) (each f C ⟦ k ⟧))
every (in_exists C) h k f g x l = absurd x
every (in_left C e) h k f g x l = absurd x
every (in_right e C) h k f g x l = absurd x
every (in_one C) h k f g x l = absurd x
every (in_all C) h k f g x l = absurd x

replace_size : (v : Row) (x : ℕ) → width v ≡ 1 → (s : Sort) (r : Row) → Lawful (s ∷ []) r → size r ≤ size (replace v x r)
replace_size v x w s r h = substitute_size («for» v x) one 0 0 r (lawful_formed admits kids word arity (s ∷ []) r h)
  where
    go : (n : ℕ) (b : Bool) → width (cond b v (var n)) ≡ 1
    go n true = w
    go n false = refl

    one : (n : ℕ) → width («for» v x n) ≡ 1
    one n = go n (eqb n x)

pub subst_grows : (inner : List ℕ) (t u : Row) → Gives (line 11 inner t) u → size t ≤ size u
subst_grows inner t u (l, i, k, e) =
    let b = l.there in
    let w = lawful_width admits kids (val ∷ []) b.v b.letters.1 in
    let f = replace_size b.v b.x w in
    let q = eqn (var b.x) b.v in
    let inside : size (seq q b.e) ≤ size (seq q (replace b.v b.x b.e)) = omega (arith, f exp b.e b.letters.2, size-& q b.e, size-& q (replace b.v b.x b.e)) in
    let grown = every l.C (seq q b.e) (seq q (replace b.v b.x b.e)) (replace b.v b.x) f l.goes inside in
    let before = ap size (l.is ∙ ap (λ r. l.C ⟦ r ⟧) b.is) in
    let after = ap size e in
    omega (arith, grown, before, after)

-- the judge over the grammar answers what the calculus is asked
pub judges : (cells : List ℕ) (r : Result (ℕ × ℕ) ℕ) → Grammar.Judged admits kids (exp ∷ []) cells r → Judged (meaning) cells r
judges cells r j = judged admits kids (exp ∷ []) (verse) (λ t h. h) (λ t h. h) formed cells r j
