-- Two heads that can never be equal. Assumes nothing.
use Rattle.std.proofs.Common.{◌≡◌, ℕ, zero, suc, List, sym, refl, ap, ◌∙◌, subst, arith}
use Rattle.calculus.specs.Line.{Gives}
use Rattle.terms.specs.Cells.{kind, children, payload, cell}
use Rattle.terms.specs.Rows.{Row, width, kind_of}
use Rattle.terms.specs.Rows.Row.{none, node}
use Rattle.terms.proofs.Inject.{top}
use Rattle.verse.specs.Syntax.{int, tuple, seq, eqn, Hnf}
use Rattle.verse.specs.Syntax.Sort.{hnf, exp}
use Rattle.verse.specs.Lines.{u_lit, u_tup, u_fail, Heads}
use Rattle.verse.proofs.MoreLawsParts.{one_wide, tuple_few}
use Rattle.verse_rules.specs.Reads.{Reads}
use Rattle.verse_rules.specs.Tests.{Apart}
use Rattle.verse_rules.proofs.Ranges.{tree_head, integer_tree, tuple_tree}
use Rattle.verse_rules.proofs.Sames.{same_three, two_leaves}

module _ (inner : List ℕ) (t a b e ks js : Row) (c d : ℕ) (at bt et : List ℕ) (is : t ≡ seq (eqn a b) e) (ra : Reads hnf a at) (rb : Reads hnf b bt) (re : Reads exp e et) (ta : a ≡ node c ks none) (tb : b ≡ node d js none) where
  ha : Hnf (node c ks none)
  ha = subst Hnf ta ra.lawful

  hb : Hnf (node d js none)
  hb = subst Hnf tb rb.lawful

  abbrev pub heads : Heads t
  heads = record { h₁ = a; h₂ = b; e = e; letters = (ra.lawful, rb.lawful, re.lawful); is = is }

  -- two equal integers have the same cell, and two tuples of the same length
  no_lit : (c ≡ d → kind c ≡ 2) → (u : Row) → Gives (u_lit inner t) u → ⊥
  no_lit n u g =
      let l = g.0 in
      let s = same_three (int l.k₁) (int l.k₂) l.e is ra l.is refl in
      let x : c ≡ cell 1 0 0 l.k₁ = ap top (sym ta ∙ s.0) in
      let y : d ≡ cell 1 0 0 l.k₂ = ap top (sym tb ∙ s.1) in
      let k = n (x ∙ ap (cell 1 0 0) g.1 ∙ sym y) in
      omega (arith, x, k, l.letters.0)

  no_tup : (c ≡ d → kind c ≡ 2) → (u : Row) → Gives (u_tup inner t) u → ⊥
  no_tup n u g =
      let l = g.0 in
      let s = same_three (tuple l.vs) (tuple l.ws) l.e is ra l.is refl in
      let x : c ≡ cell 3 0 (width l.vs) 0 = ap top (sym ta ∙ s.0) in
      let y : d ≡ cell 3 0 (width l.ws) 0 = ap top (sym tb ∙ s.1) in
      let k = n (x ∙ ap (λ w. cell 3 0 w 0) l.same ∙ sym y) in
      let few = tuple_few hnf l.vs (subst Hnf s.0 ra.lawful).1 in
      omega (arith, x, k, few)

  pub apart_words : Apart c d → (u_fail inner t).If heads
  apart_words (m, n, o) = (no_lit o, no_tup o, λ k. m (sym (ap kind_of ta) ∙ k), λ k. n (sym (ap kind_of tb) ∙ k))

  -- the other way
  same_cell : (kind c ≡ 4 → ⊥) → ((u : Row) → Gives (u_lit inner t) u → ⊥) → ((u : Row) → Gives (u_tup inner t) u → ⊥) → c ≡ d → (k : ℕ) → kind c ≡ k → kind c ≡ 2
  same_cell m p q i zero k = let r = tree_head c ks ha in absurd (omega (arith, r.0, k))
  same_cell m p q i (suc zero) k =
      let x = ta ∙ integer_tree hnf c ks ha k in
      let y = tb ∙ integer_tree hnf d js hb (ap kind (sym i) ∙ k) in
      absurd (p e (record { k₁ = payload c; k₂ = payload d; e = e; letters = (omega arith, omega arith, re.lawful); is = is ∙ two_leaves e x y }, ap payload i, tt, refl))
  same_cell m p q i (suc (suc zero)) k = k
  same_cell m p q i (suc (suc (suc zero))) k =
      let x = tuple_tree hnf c ks ha k in
      let y = tuple_tree hnf d js hb (ap kind (sym i) ∙ k) in
      absurd (q _ (record { vs = ks; ws = js; e = e; letters = (x.1, y.1, re.lawful); same = x.2 ∙ ap children i ∙ sym y.2; is = is ∙ two_leaves e (ta ∙ x.0) (tb ∙ y.0) }, tt, tt, refl))
  same_cell m p q i (suc (suc (suc (suc k)))) j = let r = tree_head c ks ha in absurd (m (omega (arith, r.1, j)))

  pub words_apart : (l : Heads t) → (u_fail inner t).If l → Apart c d
  words_apart l (p, q, m, n) =
      let s = same_three l.h₁ l.h₂ l.e is ra l.is (one_wide hnf l.h₁ l.letters.0) in
      let m' : kind c ≡ 4 → ⊥ = λ k. m (ap kind_of (sym s.0 ∙ ta) ∙ k) in
      (m', λ k. n (ap kind_of (sym s.1 ∙ tb) ∙ k), λ i. same_cell m' p q i (kind c) refl)
