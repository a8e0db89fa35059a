-- Down an inner place by choices, step by step.
use Rattle.std.proofs.Common.{◌≡◌, ℕ, ◌+◌, ◌<◌, ◌≤◌, Bool, true, false, eqb, ◌⊎◌, List, [], ◌∷◌, ◌++◌, Some, None, Option, sym, refl, ap, ◌∙◌, inl, inr, arith, length-append}
use Rattle.std.proofs.lemmas.Bool.Decides.{nat_tests}
use Rattle.terms.specs.Cells.{kind}
use Rattle.terms.specs.Forest.{Are, Headed}
use Rattle.terms.specs.Rows.{Row, flat, size, kind_of}
use Rattle.terms.specs.declared.forest.Trees.{Trees}
use Rattle.terms.proofs.Inject.{under}
use Rattle.terms.proofs.Trees.{flat_size}
use Rattle.verse.specs.Contexts.{Context, ◌⟦◌⟧, place, CX, SC, SX, Down}
use Rattle.verse.specs.Contexts.Context.{□, in_equation, in_first, in_second, in_exists, in_left, in_right, in_one, in_all}
use Rattle.verse.specs.Syntax.{choice, one, all, admits, kids, Exp}
use Rattle.verse.specs.Syntax.Sort.{exp}
use Rattle.verse.proofs.Laws.{beside, plug_cx}
use Rattle.verse.proofs.Unique.{two, wide}
use Rattle.verse_contexts.specs.declared.down.Way.TheVariants.{Choice}
use Rattle.verse_contexts.specs.declared.scope.Branch.{Branch}
use Rattle.verse_contexts.specs.Frames.{left}
use Rattle.verse_contexts.specs.Scopes.{Both, Branched, AtOnce}
use Rattle.verse_contexts.proofs.Heads.{one as one_in, all as all_in}
use Rattle.verse_contexts.proofs.Walkings.{stray}

pub choice_exp : (a b : Row) → Exp a → Exp b → Exp (choice a b)
unfolding admits kids
choice_exp a b h k = (refl, beside exp (exp ∷ []) a b h k, tt)

pub plug_sc : (S : Context) (t : Row) → SC S → Exp t → Exp (S ⟦ t ⟧)
plug_sc □ t g h = h
plug_sc (in_equation v C e) t g h = absurd g
plug_sc (in_first C e) t g h = absurd g
plug_sc (in_second q C) t g h = absurd g
plug_sc (in_exists C) t g h = absurd g
plug_sc (in_left C e) t g h = choice_exp (C ⟦ t ⟧) e (plug_sc C t g.0 h) g.1
plug_sc (in_right e C) t g h = choice_exp e (C ⟦ t ⟧) g.0 (plug_sc C t g.1 h)
plug_sc (in_one C) t g h = absurd g
plug_sc (in_all C) t g h = absurd g

-- the step: none, or into one side of a choice
data Steps (inner : List ℕ) (t : Row) : Type 0 where
  at_once : Down CX Exp inner t → Steps inner t
  to_left : (a b : Row) (rest : List ℕ) → inner ≡ 0 ∷ rest → t ≡ choice a b → Exp a → Both SC rest a → Steps inner t
  to_right : (a b : Row) (rest : List ℕ) → inner ≡ 1 ∷ rest → t ≡ choice a b → Exp a → Both SC rest b → Steps inner t

both_of : (S C : Context) (h : Row) → SC S → CX C → Exp h → Both SC (place S ++ place C) (S ⟦ C ⟦ h ⟧ ⟧)
both_of S C h g k l = record { S = S; C = C; goes = (g, k); way = refl; hole = h; there = l; is = refl }

steps : (inner : List ℕ) (t : Row) → Both SC inner t → Steps inner t
unfolding both_of
steps inner t d = go d.S d.goes.0 d.way d.is
  where
    go : (S : Context) → SC S → inner ≡ place S ++ place d.C → t ≡ S ⟦ d.C ⟦ d.hole ⟧ ⟧ → Steps inner t
    go □ g p is = at_once (record { C = d.C; goes = d.goes.1; way = p; hole = d.hole; there = d.there; is = is })
    go (in_equation v S e) g p is = absurd g
    go (in_first S e) g p is = absurd g
    go (in_second q S) g p is = absurd g
    go (in_exists S) g p is = absurd g
    go (in_left S e) g p is =
        to_left (S ⟦ d.C ⟦ d.hole ⟧ ⟧) e (place S ++ place d.C) p is (plug_sc S (d.C ⟦ d.hole ⟧) g.0 (plug_cx d.C d.hole d.goes.1 d.there)) (both_of S d.C d.hole g.0 d.goes.1 d.there)
    go (in_right e S) g p is =
        to_right e (S ⟦ d.C ⟦ d.hole ⟧ ⟧) (place S ++ place d.C) p is g.0 (both_of S d.C d.hole g.1 d.goes.1 d.there)
    go (in_one S) g p is = absurd g
    go (in_all S) g p is = absurd g

both_as : {p q : List ℕ} {t u : Row} → p ≡ q → t ≡ u → Both SC p t → Both SC q u
both_as e f d = record { S = d.S; C = d.C; goes = d.goes; way = sym e ∙ d.way; hole = d.hole; there = d.there; is = sym f ∙ d.is }

heads : {x y : ℕ} {p q : List ℕ} → x ∷ p ≡ y ∷ q → x ≡ y
heads e = cc e

tails : {x y : ℕ} {p q : List ℕ} → x ∷ p ≡ y ∷ q → p ≡ q
tails e = cc e

nothing : {x : ℕ} {p : List ℕ} → x ∷ p ≡ [] → ⊥
nothing e = let z : ◌≡◌ {A = ℕ} 0 1 = cc e in omega arith

module _ (inner : List ℕ) (t : Row) (at : ℕ) where
  -- no choice to pass
  pub branch_none : (kind_of t ≡ 10 → inner ≡ []) → (r : Option Branch) → AtOnce inner t at r → Branched SC inner t at r
  branch_none n (Some b) (d, e, f) =
      (record { S = □; C = d.C; goes = (tt, d.goes); way = d.way; hole = d.hole; there = d.there; is = d.is }, omega (arith, e), omega (arith, e, f))
  branch_none n None lost = λ d. go (steps inner t d)
    where
      go : Steps inner t → ⊥
      go (at_once d) = lost d
      go (to_left a b rest p is h d) = nothing (sym p ∙ n (ap kind_of is))
      go (to_right a b rest p is h d) = nothing (sym p ∙ n (ap kind_of is))

  -- into one side of a choice
  module _ (a b : Row) (is : t ≡ choice a b) (h : Exp a) (k : Exp b) where
    blocked : (j : ℕ) (rest : List ℕ) → inner ≡ j ∷ rest → Down CX Exp inner t → ⊥
    blocked j rest p d =
        let n = ap kind_of is in
        stray Choice inner t at j rest p (λ e l. omega (arith, n, e)) (λ w e l. omega (arith, n, e)) d

    sides : (c d : Row) → Exp c → t ≡ choice c d → (c ≡ a) × (d ≡ b)
    sides c d l is' = two _ _ c d a b (wide exp exp c a l h) (sym is' ∙ is)

    pub branch_left : (rest : List ℕ) → inner ≡ 0 ∷ rest → (r : Option Branch) → Branched SC rest a (at + 1) r → Branched SC inner t at r
    branch_left rest p (Some x) (d, e, f) =
        (record { S = in_left d.S b; C = d.C; goes = ((d.goes.0, k), d.goes.1); way = p ∙ ap (λ l. 0 ∷ l) d.way; hole = d.hole; there = d.there; is = is ∙ ap (λ u. choice u b) d.is }, omega (arith, e), f)
    branch_left rest p None lost = λ d. go (steps inner t d)
      where
        go : Steps inner t → ⊥
        go (at_once d) = blocked 0 rest p d
        go (to_left a' b' rest' p' is' h' d) = lost (both_as (tails (sym p' ∙ p)) (sides a' b' h' is').0 d)
        go (to_right a' b' rest' p' is' h' d) = let n = heads (sym p ∙ p') in omega arith

    pub branch_right : (rest : List ℕ) → inner ≡ 1 ∷ rest → (r : Option Branch) → Branched SC rest b (at + 1 + size a) r → Branched SC inner t at r
    branch_right rest p (Some x) (d, e, f) =
        let len = length-append (flat a) (left d.S) in
        let sz = flat_size a in
        (record { S = in_right a d.S; C = d.C; goes = ((h, d.goes.0), d.goes.1); way = p ∙ ap (λ l. 1 ∷ l) d.way; hole = d.hole; there = d.there; is = is ∙ ap (λ u. choice a u) d.is }, omega (arith, e, len, sz), f)
    branch_right rest p None lost = λ d. go (steps inner t d)
      where
        go : Steps inner t → ⊥
        go (at_once d) = blocked 1 rest p d
        go (to_left a' b' rest' p' is' h' d) = let n = heads (sym p ∙ p') in omega arith
        go (to_right a' b' rest' p' is' h' d) = lost (both_as (tails (sym p' ∙ p)) (sides a' b' h' is').1 d)

    -- a choice has two sides
    pub branch_stray : (j : ℕ) (rest : List ℕ) → inner ≡ j ∷ rest → 1 < j → Branched SC inner t at None
    branch_stray j rest p l = λ d. go (steps inner t d)
      where
        go : Steps inner t → ⊥
        go (at_once d) = blocked j rest p d
        go (to_left a' b' rest' p' is' h' d) = let n = heads (sym p ∙ p') in omega arith
        go (to_right a' b' rest' p' is' h' d) = let n = heads (sym p ∙ p') in omega arith

-- Into a one or an all.
record Enters (inner : List ℕ) (t : Row) : Type 0 where
  a : Row
  rest : List ℕ
  way : inner ≡ 0 ∷ rest
  is : (t ≡ one a) ⊎ (t ≡ all a)
  both : Both SC rest a

enters : (inner : List ℕ) (t : Row) → Both SX inner t → Enters inner t
unfolding both_of
enters inner t d = go d.S d.goes.0 d.way d.is
  where
    go : (S : Context) → SX S → inner ≡ place S ++ place d.C → t ≡ S ⟦ d.C ⟦ d.hole ⟧ ⟧ → Enters inner t
    go □ g p is = absurd g
    go (in_equation v S e) g p is = absurd g
    go (in_first S e) g p is = absurd g
    go (in_second q S) g p is = absurd g
    go (in_exists S) g p is = absurd g
    go (in_left S e) g p is = absurd g
    go (in_right e S) g p is = absurd g
    go (in_one S) g p is = record { a = S ⟦ d.C ⟦ d.hole ⟧ ⟧; rest = place S ++ place d.C; way = p; is = inl is; both = both_of S d.C d.hole g d.goes.1 d.there }
    go (in_all S) g p is = record { a = S ⟦ d.C ⟦ d.hole ⟧ ⟧; rest = place S ++ place d.C; way = p; is = inr is; both = both_of S d.C d.hole g d.goes.1 d.there }

inside : {t a b : Row} → (t ≡ one a) ⊎ (t ≡ all a) → (t ≡ one b) ⊎ (t ≡ all b) → b ≡ a
inside (inl e) (inl f) = ap under (sym f ∙ e)
inside (inl e) (inr f) = ap under (sym f ∙ e)
inside (inr e) (inl f) = ap under (sym f ∙ e)
inside (inr e) (inr f) = ap under (sym f ∙ e)

pub scope_in : (inner : List ℕ) (t a : Row) (at : ℕ) (rest : List ℕ) → inner ≡ 0 ∷ rest → (t ≡ one a) ⊎ (t ≡ all a) → (r : Option Branch) → Branched SC rest a (at + 1) r → Branched SX inner t at r
scope_in inner t a at rest p (inl is) (Some x) (d, e, f) =
    (record { S = in_one d.S; C = d.C; goes = d.goes; way = p ∙ ap (λ l. 0 ∷ l) d.way; hole = d.hole; there = d.there; is = is ∙ ap one d.is }, omega (arith, e), f)
scope_in inner t a at rest p (inr is) (Some x) (d, e, f) =
    (record { S = in_all d.S; C = d.C; goes = d.goes; way = p ∙ ap (λ l. 0 ∷ l) d.way; hole = d.hole; there = d.there; is = is ∙ ap all d.is }, omega (arith, e), f)
scope_in inner t a at rest p is None lost = λ d.
    let n = enters inner t d in
    lost (both_as (tails (sym n.way ∙ p)) (inside is n.is) n.both)

scoped_kind : {t a : Row} → (t ≡ one a) ⊎ (t ≡ all a) → (11 ≤ kind_of t) × (kind_of t ≤ 12)
scoped_kind (inl e) = let n = ap kind_of e in (omega (arith, n), omega (arith, n))
scoped_kind (inr e) = let n = ap kind_of e in (omega (arith, n), omega (arith, n))

pub scope_stray : (inner : List ℕ) (t : Row) (at : ℕ) → ((rest : List ℕ) → 11 ≤ kind_of t → kind_of t ≤ 12 → inner ≡ 0 ∷ rest → ⊥) → Branched SX inner t at None
scope_stray inner t at n = λ d.
    let x = enters inner t d in
    let k = scoped_kind x.is in
    n x.rest k.0 k.1 x.way

-- what a one or an all has inside
pub scope_part : {trees parts : Trees} {c : ℕ} → Headed trees (Some (c, parts)) → {t : Row} → Exp t → Are trees t → 11 ≤ kind c → kind c ≤ 12 → (a : Row) × ((t ≡ one a) ⊎ (t ≡ all a)) × Exp a × Are parts a
scope_part {trees} {parts} {c} h {t} e s l m = go (eqb (kind c) 11) refl
  where
    go : (b : Bool) → eqb (kind c) 11 ≡ b → (a : Row) × ((t ≡ one a) ⊎ (t ≡ all a)) × Exp a × Are parts a
    go true q = let k : kind c ≡ 11 = grind (arith, nat_tests) in let p = one_in exp h e s k in (p.a, inl p.is, p.lawful, p.all)
    go false q = let k : kind c ≡ 12 = grind (arith, nat_tests) in let p = all_in exp h e s k in (p.a, inr p.is, p.lawful, p.all)
