-- Down an inner place, step by step: what the rest of the way leads to, and where there is none.
use Rattle.std.proofs.Common.{◌≡◌, ℕ, ◌+◌, ◌-◌, ◌<◌, ◌≤◌, List, [], ◌∷◌, length, get_or, take, drop, Some, None, Option, sym, refl, ap, ◌∙◌, subst, arith, length-append}
use mathlib.Core.Bool.{false≢true}
use Rattle.std.proofs.lemmas.List.{take_all}
use Rattle.terms.specs.Rows.{Row, flat, size, kind_of}
use Rattle.terms.proofs.Inject.{under, lawful_width}
use Rattle.terms.proofs.Trees.{flat_size}
use Rattle.verse.specs.Contexts.{Context, Down}
use Rattle.verse.specs.Contexts.Context.{□, in_equation, in_first, in_second, in_exists}
use Rattle.verse.specs.Syntax.{seq, eqn, exists, admits, kids, Val, Exp, Equ}
use Rattle.verse.specs.Syntax.Sort.{val, exp, equ}
use Rattle.verse.proofs.Laws.{exp_equ}
use Rattle.verse.proofs.Unique.{two, wide}
use Rattle.verse_contexts.specs.declared.down.Way.{Way}
use Rattle.verse_contexts.specs.declared.down.Way.TheVariants.{Execution, Choice}
use Rattle.verse_contexts.specs.Frames.{left}
use Rattle.verse_contexts.specs.Walks.{Goes, Passes, Walked}
use Rattle.verse_contexts.proofs.Openings.{Opens, ends, to_first, to_equation, to_second, «under» as below, opens}

-- a context with one part more is of the kind
goes_none : (way : Way) → Goes way □
goes_none Execution = tt
goes_none Choice = tt

goes_first : (way : Way) (C : Context) (e : Row) → Goes way C → Exp e → Goes way (in_first C e)
goes_first Execution C e g h = (g, h)
goes_first Choice C e g h = (g, h)

goes_equation : (way : Way) (v : Row) (C : Context) (e : Row) → Val v → Goes way C → Exp e → Goes way (in_equation v C e)
goes_equation Execution v C e k g h = (k, g, h)
goes_equation Choice v C e k g h = (k, g, h)

goes_second : (way : Way) (q : Row) (C : Context) → Equ q → Passes way q → Goes way C → Goes way (in_second q C)
goes_second Execution q C h p g = (h, g)
goes_second Choice q C h p g = (h, p, g)

goes_exists : (way : Way) (C : Context) → way ≡ Choice → Goes way C → Goes way (in_exists C)
goes_exists Execution C e g = let z : ◌≡◌ {A = ℕ} 0 1 = cc e in absurd (omega arith)
goes_exists Choice C e g = g

-- an equation is no expression
no_eqn : (v f : Row) → Exp (eqn v f) → ⊥
unfolding admits
no_eqn v f h = false≢true h.0

-- of sequences, and of two kinds of term
same_seq : (q e p f : Row) → Equ q → Equ p → seq q e ≡ seq p f → (q ≡ p) × (e ≡ f)
same_seq q e p f h k is = two _ _ q e p f (wide equ equ q p h k) is

kinds : {t u : Row} → t ≡ u → kind_of t ≡ kind_of u
kinds e = ap kind_of e

heads : {x y : ℕ} {p q : List ℕ} → x ∷ p ≡ y ∷ q → x ≡ y
heads e = cc e

tails : {x y : ℕ} {p q : List ℕ} → x ∷ p ≡ y ∷ q → p ≡ q
tails e = cc e

nothing : {x : ℕ} {p : List ℕ} → x ∷ p ≡ [] → ⊥
nothing e = let z : ◌≡◌ {A = ℕ} 0 1 = cc e in omega arith

down_as : {Ways : Context → Type 0} {p q : List ℕ} {t u : Row} → p ≡ q → t ≡ u → Down Ways Exp p t → Down Ways Exp q u
down_as {Ways} {t = t} e f d = record { C = d.C; goes = d.goes; way = sym e ∙ d.way; hole = d.hole; there = d.there; is = sym f ∙ d.is }

-- the entries of a place, one after the other
pub one_entry : (inner : List ℕ) → 0 < length inner → inner ≡ get_or inner 0 0 ∷ take (length inner - 1) (drop 1 inner)
one_entry [] h = absurd (omega arith)
one_entry (j ∷ rest) h = ap (λ l. j ∷ l) (sym (take_all (length (j ∷ rest) - 1) rest (omega arith)))

pub no_entries : (inner : List ℕ) → length inner ≡ 0 → inner ≡ []
no_entries [] h = refl
no_entries (j ∷ rest) h = absurd (omega arith)

module _ (way : Way) (inner : List ℕ) (t : Row) (at : ℕ) where
  -- the place ends here
  pub walk_none : inner ≡ [] → Exp t → Walked (Goes way) inner t at (Some at)
  walk_none e h = (record { C = □; goes = goes_none way; way = e; hole = t; there = h; is = refl }, omega arith)

  -- into an expression that a sequence begins with
  pub walk_first : (q e : Row) (rest : List ℕ) → inner ≡ 0 ∷ rest → t ≡ seq q e → Exp q → Equ q → Exp e → (r : Option ℕ) → Walked (Goes way) rest q (at + 1) r → Walked (Goes way) inner t at r
  walk_first q e rest p is h i k (Some j) (d, n) =
      (record { C = in_first d.C e; goes = goes_first way d.C e d.goes k; way = p ∙ ap (λ l. 0 ∷ l) d.way; hole = d.hole; there = d.there; is = is ∙ ap (λ x. seq x e) d.is }, omega (arith, n))
  walk_first q e rest p is h i k None lost = λ d. go (opens way inner t d)
    where
      go : Opens way inner t → ⊥
      go (ends z) = nothing (sym p ∙ z)
      go (to_first q' e' rest' z is' h' d') =
          let w = same_seq q e q' e' i (exp_equ q' h') (sym is ∙ is') in
          lost (down_as (tails (sym z ∙ p)) (sym w.0) d')
      go (to_equation v f e' rest' z is' h' d') =
          let w = two _ _ q e (eqn v f) e' (lawful_width admits kids (equ ∷ []) q i) (sym is ∙ is') in
          no_eqn v f (subst Exp w.0 h)
      go (to_second q' e' rest' z is' h' g d') = let n = heads (sym p ∙ z) in omega arith
      go (below e' rest' c z is' d') = let n = kinds (sym is ∙ is') in omega (arith, n)

  -- through an equation that it begins with
  module _ (v f e : Row) (is : t ≡ seq (eqn v f) e) (h : Val v) where
    second_entry : (rest : List ℕ) → inner ≡ 0 ∷ rest → Opens way inner t → (rest' : List ℕ) × (rest ≡ 1 ∷ rest') × Down (Goes way) Exp rest' f
    second_entry rest p (ends z) = absurd (nothing (sym p ∙ z))
    second_entry rest p (to_first q' e' rest' z is' h' d') =
        let w = two _ _ (eqn v f) e q' e' (sym (lawful_width admits kids (exp ∷ []) q' h')) (sym is ∙ is') in
        absurd (no_eqn v f (subst Exp (sym w.0) h'))
    second_entry rest p (to_equation v' f' e' rest' z is' h' d') =
        let w = two _ _ (eqn v f) e (eqn v' f') e' refl (sym is ∙ is') in
        let u = two _ _ v f v' f' (wide val val v v' h h') w.0 in
        (rest', tails (sym p ∙ z), down_as refl (sym u.1) d')
    second_entry rest p (to_second q' e' rest' z is' h' g d') = let n = heads (sym p ∙ z) in absurd (omega arith)
    second_entry rest p (below e' rest' c z is' d') = let n = kinds (sym is ∙ is') in absurd (omega (arith, n))

    pub walk_equation : (rest : List ℕ) → inner ≡ 0 ∷ 1 ∷ rest → Exp e → (r : Option ℕ) → Walked (Goes way) rest f (at + 2 + size v) r → Walked (Goes way) inner t at r
    walk_equation rest p k (Some j) (d, n) =
        let len = length-append (flat v) (left d.C) in
        let sz = flat_size v in
        (record { C = in_equation v d.C e; goes = goes_equation way v d.C e h d.goes k; way = p ∙ ap (λ l. 0 ∷ 1 ∷ l) d.way; hole = d.hole; there = d.there; is = is ∙ ap (λ x. seq (eqn v x) e) d.is }, omega (arith, n, len, sz))
    walk_equation rest p k None lost = λ d. let q = second_entry (1 ∷ rest) p (opens way inner t d) in lost (down_as (tails (sym q.1)) refl q.2)

    -- and not at the equation itself
    pub stray_equation : (rest : List ℕ) → inner ≡ 0 ∷ rest → ((rest' : List ℕ) → rest ≡ 1 ∷ rest' → ⊥) → Walked (Goes way) inner t at None
    stray_equation rest p n d = let q = second_entry rest p (opens way inner t d) in n q.0 q.1

  -- into the second part
  module _ (q e : Row) (rest : List ℕ) (p : inner ≡ 1 ∷ rest) (is : t ≡ seq q e) (h : Equ q) where
    second_part : Opens way inner t → Passes way q × Down (Goes way) Exp rest e
    second_part (ends z) = absurd (nothing (sym p ∙ z))
    second_part (to_first q' e' rest' z is' h' d') = let n = heads (sym p ∙ z) in absurd (omega arith)
    second_part (to_equation v' f' e' rest' z is' h' d') = let n = heads (sym p ∙ z) in absurd (omega arith)
    second_part (to_second q' e' rest' z is' h' g d') =
        let w = same_seq q e q' e' h h' (sym is ∙ is') in
        (subst (Passes way) (sym w.0) g, down_as (tails (sym z ∙ p)) (sym w.1) d')
    second_part (below e' rest' c z is' d') = let n = heads (sym p ∙ z) in absurd (omega arith)

    pub walk_second : Passes way q → (r : Option ℕ) → Walked (Goes way) rest e (at + 1 + size q) r → Walked (Goes way) inner t at r
    walk_second g (Some j) (d, n) =
        let len = length-append (flat q) (left d.C) in
        let sz = flat_size q in
        (record { C = in_second q d.C; goes = goes_second way q d.C h g d.goes; way = p ∙ ap (λ l. 1 ∷ l) d.way; hole = d.hole; there = d.there; is = is ∙ ap (λ x. seq q x) d.is }, omega (arith, n, len, sz))
    walk_second g None lost = λ d. lost (second_part (opens way inner t d)).1

    -- but not past a first part that a choice context does not pass
    pub stray_second : (Passes way q → ⊥) → Walked (Goes way) inner t at None
    stray_second n d = n (second_part (opens way inner t d)).0

  -- under an exists
  pub walk_exists : (e : Row) (rest : List ℕ) → way ≡ Choice → inner ≡ 0 ∷ rest → t ≡ exists e → (r : Option ℕ) → Walked (Goes way) rest e (at + 1) r → Walked (Goes way) inner t at r
  walk_exists e rest c p is (Some j) (d, n) =
      (record { C = in_exists d.C; goes = goes_exists way d.C c d.goes; way = p ∙ ap (λ l. 0 ∷ l) d.way; hole = d.hole; there = d.there; is = is ∙ ap exists d.is }, omega (arith, n))
  walk_exists e rest c p is None lost = λ d. go (opens way inner t d)
    where
      go : Opens way inner t → ⊥
      go (ends z) = nothing (sym p ∙ z)
      go (to_first q' e' rest' z is' h' d') = let n = kinds (sym is ∙ is') in omega (arith, n)
      go (to_equation v f e' rest' z is' h' d') = let n = kinds (sym is ∙ is') in omega (arith, n)
      go (to_second q' e' rest' z is' h' g d') = let n = kinds (sym is ∙ is') in omega (arith, n)
      go (below e' rest' c' z is' d') = lost (down_as (tails (sym z ∙ p)) (sym (ap under (sym is ∙ is'))) d')

  -- no context begins so
  pub stray : (j : ℕ) (rest : List ℕ) → inner ≡ j ∷ rest → (kind_of t ≡ 6 → j ≤ 1 → ⊥) → (way ≡ Choice → kind_of t ≡ 8 → j ≡ 0 → ⊥) → Walked (Goes way) inner t at None
  stray j rest p n m d = go (opens way inner t d)
    where
      go : Opens way inner t → ⊥
      go (ends z) = nothing (sym p ∙ z)
      go (to_first q' e' rest' z is' h' d') = let k = heads (sym p ∙ z) in n (kinds is') (omega arith)
      go (to_equation v f e' rest' z is' h' d') = let k = heads (sym p ∙ z) in n (kinds is') (omega arith)
      go (to_second q' e' rest' z is' h' g d') = let k = heads (sym p ∙ z) in n (kinds is') (omega arith)
      go (below e' rest' c z is' d') = m c (kinds is') (heads (sym p ∙ z))
