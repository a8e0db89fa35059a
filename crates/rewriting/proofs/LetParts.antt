-- A let at a cell: its cell, what it binds, its body. Assumes nothing.
use Rattle.std.proofs.Common.{◌≡◌, ℕ, suc, ◌+◌, true, List, [], ◌∷◌, length, get_or, replicate, sym, refl, ap, ◌∙◌, subst, arith}
use Rattle.std.proofs.lemmas.Bool.Decides.{nat_tests}
use Rattle.terms.specs.Cells.{kind, binder, children, zeros, payload, cell}
use Rattle.terms.specs.Rows.{Row, flat, size, ◌&◌}
use Rattle.terms.specs.Rows.Row.{none, node}
use Rattle.terms.specs.Standing.{Stands}
use Rattle.terms.proofs.Inject.{top, under, inj-&}
use Rattle.terms.proofs.Trees.{flat_size}
use Rattle.terms.proofs.Bridge.{size-&}
use Rattle.terms.proofs.Steps.{moved}
use Rattle.lets.specs.Syntax.{admits, kids, Lawful, Term, let_in}
use Rattle.lets.specs.Syntax.Sort.{term}
use Rattle.lets.specs.Figure.{Let, Lets}
use Rattle.lets.proofs.Laws.{beside, one_wide}
use Rattle.lets.proofs.MoreLaws.{term_kids}
use Rattle.rewriting.proofs.CellWhole.{cell_is}
use Rattle.rewriting.proofs.Standings.{TermAt, stands_left, stands_right, kids_here, top_here}

-- the fields of a let's cell, and the cell itself
let_fields : (c : ℕ) → admits term c ≡ true → kind c ≡ 35 → (binder c ≡ 1) × (children c ≡ 2) × (zeros c ≡ 0) × (payload c ≡ 0)
unfolding admits
let_fields c a k = (grind (arith, nat_tests), grind (arith, nat_tests), grind (arith, nat_tests), grind (arith, nat_tests))

by_fields : (c : ℕ) → kind c ≡ 35 → binder c ≡ 1 → children c ≡ 2 → zeros c ≡ 0 → payload c ≡ 0 → c ≡ cell 35 1 2 0
by_fields c k b n z p = cell_is c ∙ rw (k, b, n, z, p) refl

-- two terms side by side
two_terms : (ks : Row) → Lawful (term ∷ term ∷ []) ks → (a e : Row) × Term a × Term e × (ks ≡ a & e)
two_terms none h = absurd h
two_terms (node c ks none) h = absurd h.2
two_terms (node c ks (node d js none)) h = (node c ks none, node d js none, (h.0, h.1, tt), h.2, refl)
two_terms (node c ks (node d js (node g is r))) h = absurd h.2.2

-- a lawful term whose cell has kind 35 is a let
let_of : (t : Row) → Term t → kind (top t) ≡ 35 → Let t
let_of none h k = absurd h
let_of (node c ks (node d js r)) h k = absurd h.2
let_of (node c ks none) h k =
    let f = let_fields c h.0 k in
    let is = by_fields c k f.0 f.1 f.2 f.3 in
    let w = subst (λ n. Lawful (replicate n term) ks) f.1 (term_kids c ks h.1).1 in
    let p = two_terms ks w in
    record { a = p.0; e = p.1; letters = (p.2, p.3); is = ap (λ x. node x ks none) is ∙ ap (λ x. node (cell 35 1 2 0) x none) p.4 }

pub here_let : (t : Row) {at : ℕ} {cells : List ℕ} → TermAt t cells at → kind (get_or cells at 0) ≡ 35 → Let t
here_let t s k = let_of t s.lawful (ap kind (top_here t s) ∙ k)

pub here_other : (t : Row) {at : ℕ} {cells : List ℕ} → TermAt t cells at → (kind (get_or cells at 0) ≡ 35 → ⊥) → Let t → ⊥
here_other t s h l = h (ap kind (sym (top_here t s)) ∙ ap (λ u. kind (top u)) l.is)

pub let_same : {t : Row} (l m : Let t) → (l.a ≡ m.a) × (l.e ≡ m.e)
let_same l m =
    inj-& l.a l.e m.a m.e (one_wide l.a l.letters.0 ∙ sym (one_wide m.a m.letters.0)) (ap under (sym l.is ∙ m.is))

-- where the parts of a let stand
module _ {t : Row} {at : ℕ} {cells : List ℕ} (s : TermAt t cells at) (l : Let t) where
  let_stands : Stands (let_in l.a l.e) 1 cells at
  let_stands = subst (λ u. Stands u 1 cells at) l.is s.stands

  pub bound_at : TermAt l.a cells (at + 1)
  bound_at =
      record {
        lawful = l.letters.0;
        stands = moved (stands_left l.a l.e (kids_here _ _ let_stands)) (sym (one_wide l.a l.letters.0)) refl;
      }

  pub body_at : (i : ℕ) → i ≡ at + 1 + size l.a → TermAt l.e cells i
  body_at i e =
      record {
        lawful = l.letters.1;
        stands = moved (stands_right l.a l.e (kids_here _ _ let_stands)) (sym (one_wide l.e l.letters.1)) e;
      }

  pub let_size : size t ≡ suc (size l.a + size l.e)
  let_size = omega (arith, ap size l.is, size-& l.a l.e)

-- a let of a let, and what is none
pub lets_of : {t : Row} (l : Let t) → Let l.a → Lets t
lets_of l m =
    record {
      a = m.a;
      b = m.e;
      e = l.e;
      letters = (m.letters.0, m.letters.1, l.letters.1);
      is = l.is ∙ ap (λ x. let_in x l.e) m.is;
    }

pub lets_outer : {t : Row} → Lets t → Let t
unfolding admits kids
lets_outer q =
    record {
      a = let_in q.a q.b;
      e = q.e;
      letters = ((refl, beside term (term ∷ []) q.a q.b q.letters.0 q.letters.1, tt), q.letters.2);
      is = q.is;
    }

-- the three parts of a let of a let, by their cells
pub record Flattened (t : Row) (a b e : List ℕ) : Type 0 where
  pub lets : Lets t
  pub a_is : flat lets.a ≡ a
  pub b_is : flat lets.b ≡ b
  pub e_is : flat lets.e ≡ e
  pub long : size t ≡ 2 + length a + length b + length e

pub flattened : {t : Row} {a b e : List ℕ} (l : Let t) (m : Let l.a) → flat m.a ≡ a → flat m.e ≡ b → flat l.e ≡ e → Flattened t a b e
unfolding lets_of
flattened {t} l m x y z =
    let u = ap size m.is in
    record {
      lets = lets_of l m;
      a_is = x;
      b_is = y;
      e_is = z;
      long =
          omega (arith, ap size l.is, size-& l.a l.e, u, size-& m.a m.e, flat_size m.a, flat_size m.e, flat_size l.e, ap length x, ap length y, ap length z);
    }
