-- Down a place of a term, sort by sort.
use Rattle.std.proofs.Common.{◌≡◌, ℕ, zero, suc, ◌+◌, ◌<◌, ◌≤◌, Bool, true, false, ◌||◌, eqb, List, [], ◌∷◌, length, get_or, drop, Some, None, Decides, sym, refl, ap, ◌∙◌, subst, arith}
use Rattle.std.proofs.lemmas.List.{drop_more, drop_all}
use Rattle.std.proofs.lemmas.Bool.Decides.{nat_tests}
use Rattle.terms.specs.Cells.{kind, children}
use Rattle.terms.specs.Descents.{ChildAt}
use Rattle.terms.specs.Rows.{Row, flat, pick}
use Rattle.terms.specs.Rows.Row.{none, node}
use Rattle.terms.specs.Grammar.{At}
use Rattle.terms.specs.Standing.{Stands}
use Rattle.terms.proofs.Steps.{opened, moved}
use Rattle.terms.proofs.Ways.{part_node, tree_stands, width_place}
use Rattle.verse.specs.Syntax.{Sort, admits, kids, Lawful, Term, Calls, Site}
use Rattle.verse.specs.Syntax.Sort.{val, exp, equ}
use Rattle.verse_terms.specs.Sorts.{child_sort}
use Rattle.verse_terms.proofs.Sorts.{tuple_kids, lambda_kids, application_kids, sequence_kids, equation_kids, joined_kids}
use Rattle.verse_terms.proofs.Counts.{Form, a_leaf, a_tuple, a_lambda, an_application, a_sequence, an_equation, a_join, form_of, term_tree}
use Rattle.verse_terms.proofs.Parts.{Nth, nth_replicate, part_stands, nth_lawful, nth_down, nth_back, none_there}

-- a child has the sort of its number
by_form : (s : Sort) (c n : ℕ) → Form c → n < children c → Nth (kids s c) n (child_sort (kind c) n)
by_form s c n (a_leaf h) l = let z : children c ≡ 0 = grind (arith, nat_tests) in absurd (omega arith)
by_form s c n (a_tuple h) l =
    let k : kind c ≡ 3 = grind (arith, nat_tests) in
    rw (tuple_kids s c h, k) (nth_replicate val n (children c) l)
by_form s c n (a_lambda h) l =
    let k : kind c ≡ 4 = grind (arith, nat_tests) in
    let m : children c ≡ 1 = grind (arith, nat_tests) in
    rw (lambda_kids s c h, k) (nth_replicate exp n 1 (omega arith))
by_form s c n (an_application h) l =
    let k : kind c ≡ 5 = grind (arith, nat_tests) in
    let m : children c ≡ 2 = grind (arith, nat_tests) in
    rw (application_kids s c h, k) (nth_replicate val n 2 (omega arith))
by_form s c n (a_sequence h) l =
    let k : kind c ≡ 6 = grind (arith, nat_tests) in
    let m : children c ≡ 2 = grind (arith, nat_tests) in
    rw (sequence_kids s c h, k) (go n (omega arith))
  where
    go : (n : ℕ) → n < 2 → Nth (equ ∷ exp ∷ []) n (child_sort 6 n)
    go zero l = refl
    go (suc zero) l = refl
    go (suc (suc n)) l = absurd (omega arith)
by_form s c n (an_equation h) l =
    let k : kind c ≡ 7 = grind (arith, nat_tests) in
    let m : children c ≡ 2 = grind (arith, nat_tests) in
    rw (equation_kids s c h, k) (go n (omega arith))
  where
    go : (n : ℕ) → n < 2 → Nth (val ∷ exp ∷ []) n (child_sort 7 n)
    go zero l = refl
    go (suc zero) l = refl
    go (suc (suc n)) l = absurd (omega arith)
by_form s c n (a_join h) l =
    let a : eqb (kind c) 3 || eqb (kind c) 5 ≡ false = grind (arith, nat_tests) in
    let b : eqb (kind c) 6 ≡ false = grind (arith, nat_tests) in
    let d : eqb (kind c) 7 ≡ false = grind (arith, nat_tests) in
    rw (joined_kids s c h, a, b, d) (nth_replicate exp n (children c) l)

pub nth_sort : (s : Sort) (c n : ℕ) → admits s c ≡ true → n < children c → Nth (kids s c) n (child_sort (kind c) n)
nth_sort s c n h l = by_form s c n (form_of s c h) l

-- a place is gone down as far as its entry number k: a tree of a sort stands there, and the rest of the place is
-- a site of that just where the whole is one of the term
pub record Gone (cells place : List ℕ) (t : Row) (k at : ℕ) (s : Sort) : Type 0 where
  pub c : ℕ
  pub ks : Row
  pub lawful : Lawful (s ∷ []) (node c ks none)
  pub stands : Stands (node c ks none) 1 cells at
  pub cell : c ≡ get_or cells at 0
  pub within : at < length cells
  pub down : Site t place → At admits kids Calls (s ∷ []) (node c ks none) 0 (drop k place)
  pub back : At admits kids Calls (s ∷ []) (node c ks none) 0 (drop k place) → Site t place

module _ (cells place : List ℕ) (t : Row) where
  gone : (k at : ℕ) (s : Sort) (u : Row) → Lawful (s ∷ []) u → Stands u 1 cells at → (Site t place → At admits kids Calls (s ∷ []) u 0 (drop k place)) → (At admits kids Calls (s ∷ []) u 0 (drop k place) → Site t place) → Gone cells place t k at s
  gone k at s u h st d b =
      let one = part_node u st.wide in
      let e = one.2 in
      let o = opened u st (λ z. omega arith) in
      let n : node one.0 one.1 none ≡ node (get_or cells at 0) o.ks o.r = sym e ∙ o.is in
      record {
        c = one.0;
        ks = one.1;
        lawful = subst (Lawful (s ∷ [])) e h;
        stands = subst (λ x. Stands x 1 cells at) e st;
        cell = cc n;
        within = omega (arith, o.within, o.sized);
        down = λ a. subst (λ x. At admits kids Calls (s ∷ []) x 0 (drop k place)) e (d a);
        back = λ a. b (subst (λ x. At admits kids Calls (s ∷ []) x 0 (drop k place)) (sym e) a);
      }

  pub gone_none : Term t → flat t ≡ cells → Gone cells place t 0 0 exp
  unfolding gone
  gone_none h e = gone 0 0 exp t h (tree_stands cells t (term_tree t h e)) (λ a. a) (λ a. a)

  module _ (k at : ℕ) (s : Sort) (g : Gone cells place t k at s) (l : k < length place) where
    entry : drop k place ≡ get_or place k 0 ∷ drop (k + 1) place
    entry = drop_more place k 0 l

    pub gone_more : (next : ℕ) (z : Sort) → ChildAt cells at (get_or place k 0) (Some next) → z ≡ child_sort (kind (get_or cells at 0)) (get_or place k 0) → Gone cells place t (k + 1) next z
    unfolding gone
    gone_more next z f n =
        let j = get_or place k 0 in
        let q = f g.c g.ks g.stands in
        let w : j < children g.c = omega (arith, q.0, g.stands.counted.1) in
        let h : Nth (kids s g.c) j z = subst (Nth (kids s g.c) j) (ap (λ x. child_sort (kind x) j) g.cell ∙ sym n) (nth_sort s g.c j g.lawful.0 w) in
        gone (k + 1) next z (pick g.ks j [])
        (nth_lawful admits kids (kids s g.c) g.ks j z g.lawful.1 h)
        (moved (part_stands g.stands 0 (j ∷ []) (width_place g.ks j q.0)) refl q.1)
        (λ a. nth_down admits kids Calls (kids s g.c) g.ks j z (drop (k + 1) place) h (subst (At admits kids Calls (s ∷ []) (node g.c g.ks none) 0) entry (g.down a)))
        (λ a. g.back (subst (At admits kids Calls (s ∷ []) (node g.c g.ks none) 0) (sym entry) (nth_back admits kids Calls (kids s g.c) g.ks j z (drop (k + 1) place) h a)))

    pub gone_astray : ChildAt cells at (get_or place k 0) None → Site t place → ⊥
    gone_astray f a =
        none_there admits kids Calls (kids s g.c) g.ks (get_or place k 0) (drop (k + 1) place) (f g.c g.ks g.stands) (subst (At admits kids Calls (s ∷ []) (node g.c g.ks none) 0) entry (g.down a))

  -- the whole place is gone down
  pub gone_all : (k at : ℕ) (s : Sort) (r : Bool) → Gone cells place t k at s → length place ≤ k → Decides r (Calls s (get_or cells at 0)) → Decides r (Site t place)
  gone_all k at s r g l d =
      let e = drop_all k place l in (
        λ h. g.back (subst (At admits kids Calls (s ∷ []) (node g.c g.ks none) 0) (sym e) (subst (Calls s) (sym g.cell) (d.0 h))),
        λ a. d.1 (subst (Calls s) g.cell (subst (At admits kids Calls (s ∷ []) (node g.c g.ks none) 0) e (g.down a))),
      )
