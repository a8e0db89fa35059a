-- A lawful tree that stands at a cell, taken apart by its kind.
use Rattle.std.proofs.Common.{◌≡◌, ℕ, suc, ◌+◌, ◌≤◌, Bool, true, false, List, [], ◌∷◌, get_or, sym, refl, ap, ◌∙◌, subst, arith}
use Rattle.std.proofs.lemmas.Bool.Decides.{nat_tests}
use Rattle.terms.specs.Cells.{kind, children, cell}
use Rattle.terms.specs.Rows.{Row, size, ◌&◌}
use Rattle.terms.specs.Rows.Row.{none, node}
use Rattle.terms.specs.Standing.{Stands}
use Rattle.terms.proofs.Inject.{top, under, next, empty}
use Rattle.terms.proofs.Steps.{opened, moved, stands_first}
use Rattle.verse.specs.Syntax.{Sort, plain, admits, kids, Lawful, Exp, Equ, fail}
use Rattle.verse.specs.Syntax.Sort.{val, exp, equ}
use Rattle.verse_terms.specs.Forms.{equated, joined}
use Rattle.verse_terms.proofs.Counts.{Form, a_leaf, a_tuple, a_lambda, an_application, a_sequence, an_equation, a_join, form_of}
use Rattle.verse_terms.proofs.Parts.{rooted}
use Rattle.verse_terms.proofs.Sorts.{kids_of, equ_else, kids_alike}

plain_is : (k b n c : ℕ) → plain k b n c ≡ true → c ≡ cell k b n 0
plain_is k b n c h = grind (arith, nat_tests)

-- a cell of a form and a kind
sequence_form : (c : ℕ) → Form c → kind c ≡ 6 → c ≡ cell 6 0 2 0
sequence_form c (a_leaf h) k = absurd (grind (arith, nat_tests))
sequence_form c (a_tuple h) k = absurd (grind (arith, nat_tests))
sequence_form c (a_lambda h) k = absurd (grind (arith, nat_tests))
sequence_form c (an_application h) k = absurd (grind (arith, nat_tests))
sequence_form c (a_sequence h) k = plain_is 6 0 2 c h
sequence_form c (an_equation h) k = absurd (grind (arith, nat_tests))
sequence_form c (a_join h) k = absurd (grind (arith, nat_tests))

equation_form : (c : ℕ) → Form c → kind c ≡ 7 → c ≡ cell 7 0 2 0
equation_form c (a_leaf h) k = absurd (grind (arith, nat_tests))
equation_form c (a_tuple h) k = absurd (grind (arith, nat_tests))
equation_form c (a_lambda h) k = absurd (grind (arith, nat_tests))
equation_form c (an_application h) k = absurd (grind (arith, nat_tests))
equation_form c (a_sequence h) k = absurd (grind (arith, nat_tests))
equation_form c (an_equation h) k = plain_is 7 0 2 c h
equation_form c (a_join h) k = absurd (grind (arith, nat_tests))

-- an exists, a fail, a choice, a one or an all
joined_form : (c : ℕ) → Form c → 8 ≤ kind c → joined c ≡ true
joined_form c (a_leaf h) k = absurd (grind (arith, nat_tests))
joined_form c (a_tuple h) k = absurd (grind (arith, nat_tests))
joined_form c (a_lambda h) k = absurd (grind (arith, nat_tests))
joined_form c (an_application h) k = absurd (grind (arith, nat_tests))
joined_form c (a_sequence h) k = absurd (grind (arith, nat_tests))
joined_form c (an_equation h) k = absurd (grind (arith, nat_tests))
joined_form c (a_join h) k = h

exists_form : (c : ℕ) → joined c ≡ true → kind c ≡ 8 → c ≡ cell 8 1 1 0
exists_form c h k = grind (arith, nat_tests)

choice_form : (c : ℕ) → joined c ≡ true → kind c ≡ 10 → c ≡ cell 10 0 2 0
choice_form c h k = grind (arith, nat_tests)

one_form : (c : ℕ) → joined c ≡ true → kind c ≡ 11 → c ≡ cell 11 0 1 0
one_form c h k = grind (arith, nat_tests)

all_form : (c : ℕ) → joined c ≡ true → kind c ≡ 12 → c ≡ cell 12 0 1 0
all_form c h k = grind (arith, nat_tests)

fail_form : (c : ℕ) → joined c ≡ true → kind c ≡ 9 → c ≡ cell 9 0 0 0
fail_form c h k = grind (arith, nat_tests)

-- two children, one beside the other
pub record Pair (s₁ s₂ : Sort) (c : ℕ) (t : Row) (cells : List ℕ) (at : ℕ) : Type 0 where
  pub a : Row
  pub b : Row
  pub is : t ≡ node c (a & b) none
  pub left : Lawful (s₁ ∷ []) a
  pub right : Lawful (s₂ ∷ []) b
  pub first : Stands a 1 cells (at + 1)
  pub second : Stands b 1 cells (at + 1 + size a)
  pub sized : size t ≡ suc (size a + size b)

-- one child
pub record Only (s : Sort) (c : ℕ) (t : Row) (cells : List ℕ) (at : ℕ) : Type 0 where
  pub a : Row
  pub is : t ≡ node c a none
  pub lawful : Lawful (s ∷ []) a
  pub first : Stands a 1 cells (at + 1)
  pub sized : size t ≡ suc (size a)

module _ {t : Row} {at : ℕ} {cells : List ℕ} (s : Sort) (st : Stands t 1 cells at) (law : Lawful (s ∷ []) t) where
  -- the cell is admitted, and its children have their sorts
  taken : (admits s (get_or cells at 0) ≡ true) × Lawful (kids s (get_or cells at 0)) (rooted st).ks
  taken = let h = subst (Lawful (s ∷ [])) (rooted st).is law in (h.0, h.1)

  pub form_here : Form (get_or cells at 0)
  form_here = form_of s (get_or cells at 0) taken.0

  two_of : (s₁ s₂ : Sort) (c : ℕ) → get_or cells at 0 ≡ c → children c ≡ 2 → kids s c ≡ s₁ ∷ s₂ ∷ [] → Pair s₁ s₂ c t cells at
  two_of s₁ s₂ c e n k =
      go (rooted st).ks ((rooted st).is ∙ ap (λ x. node x (rooted st).ks none) e) (subst (λ ss. Lawful ss (rooted st).ks) (ap (kids s) e ∙ k) taken.1) (moved (rooted st).first (sym n ∙ ap children (sym e)) refl) (rooted st).sized
    where
      go : (ks : Row) → t ≡ node c ks none → Lawful (s₁ ∷ s₂ ∷ []) ks → Stands ks 2 cells (at + 1) → size t ≡ suc (size ks) → Pair s₁ s₂ c t cells at
      go none is h f z = absurd h
      go (node d js none) is h f z = absurd h.2
      go (node d js (node x xs (node y ys r))) is h f z = absurd h.2.2
      go (node d js (node x xs none)) is h f z =
          let o = opened (node d js (node x xs none)) f (λ q. omega arith) in
          let w : node d js (node x xs none) ≡ node (get_or cells (at + 1) 0) o.ks o.r = o.is in
          let first = stands_first f o in
          let jk : js ≡ o.ks = ap under w in
          let xr : node x xs none ≡ o.r = ap next w in
          let dg : d ≡ get_or cells (at + 1) 0 = ap top w in
          record {
            a = node d js none;
            b = node x xs none;
            is = is;
            left = (h.0, h.1, tt);
            right = h.2;
            first = subst (λ u. Stands u 1 cells (at + 1)) (ap (λ q. node (get_or cells (at + 1) 0) q none) (sym jk) ∙ ap (λ q. node q js none) (sym dg)) first;
            second = moved (subst (λ u. Stands u 1 cells (at + 1 + 1 + size o.ks)) (sym xr) o.others) refl (omega (arith, ap size jk));
            sized = omega (arith, z);
          }

  one_of : (s₁ : Sort) (c : ℕ) → get_or cells at 0 ≡ c → children c ≡ 1 → kids s c ≡ s₁ ∷ [] → Only s₁ c t cells at
  one_of s₁ c e n k =
      record {
        a = (rooted st).ks;
        is = (rooted st).is ∙ ap (λ x. node x (rooted st).ks none) e;
        lawful = subst (λ ss. Lawful ss (rooted st).ks) (ap (kids s) e ∙ k) taken.1;
        first = moved (rooted st).first (sym n ∙ ap children (sym e)) refl;
        sized = (rooted st).sized;
      }

  -- a tree by the kind of its cell
  pub sequence_parts : kind (get_or cells at 0) ≡ 6 → Pair equ exp (cell 6 0 2 0) t cells at
  sequence_parts k = two_of equ exp (cell 6 0 2 0) (sequence_form (get_or cells at 0) form_here k) refl (kids_of s (cell 6 0 2 0) 6 refl)

  pub equation_parts : kind (get_or cells at 0) ≡ 7 → Pair val exp (cell 7 0 2 0) t cells at
  equation_parts k = two_of val exp (cell 7 0 2 0) (equation_form (get_or cells at 0) form_here k) refl (kids_of s (cell 7 0 2 0) 7 refl)

  joined_here : 8 ≤ kind (get_or cells at 0) → joined (get_or cells at 0) ≡ true
  joined_here l = joined_form (get_or cells at 0) form_here l

  pub exists_part : kind (get_or cells at 0) ≡ 8 → Only exp (cell 8 1 1 0) t cells at
  exists_part k = one_of exp (cell 8 1 1 0) (exists_form (get_or cells at 0) (joined_here (omega (arith, k))) k) refl (kids_of s (cell 8 1 1 0) 8 refl)

  pub choice_parts : kind (get_or cells at 0) ≡ 10 → Pair exp exp (cell 10 0 2 0) t cells at
  choice_parts k = two_of exp exp (cell 10 0 2 0) (choice_form (get_or cells at 0) (joined_here (omega (arith, k))) k) refl (kids_of s (cell 10 0 2 0) 10 refl)

  pub one_part : kind (get_or cells at 0) ≡ 11 → Only exp (cell 11 0 1 0) t cells at
  one_part k = one_of exp (cell 11 0 1 0) (one_form (get_or cells at 0) (joined_here (omega (arith, k))) k) refl (kids_of s (cell 11 0 1 0) 11 refl)

  pub all_part : kind (get_or cells at 0) ≡ 12 → Only exp (cell 12 0 1 0) t cells at
  all_part k = one_of exp (cell 12 0 1 0) (all_form (get_or cells at 0) (joined_here (omega (arith, k))) k) refl (kids_of s (cell 12 0 1 0) 12 refl)

  pub fail_here : kind (get_or cells at 0) ≡ 9 → t ≡ fail
  fail_here k =
      let e = fail_form (get_or cells at 0) (joined_here (omega (arith, k))) k in
      let n : children (get_or cells at 0) ≡ 0 = ap children e in
      (rooted st).is ∙ ap (node (get_or cells at 0) (rooted st).ks) refl ∙ ap (λ x. node (get_or cells at 0) x none) (empty (rooted st).ks ((rooted st).first.wide ∙ n)) ∙ ap (λ x. node x none none) e

-- what a sequence begins with, if it is no equation
pub no_equation : {q : Row} {at : ℕ} {cells : List ℕ} → Stands q 1 cells at → Equ q → (kind (get_or cells at 0) ≡ 7 → ⊥) → Exp q
no_equation {q} {at} {cells} st h n =
    let c = get_or cells at 0 in
    let k = taken equ st h in
    let z : equated c ≡ false = go (equated c) refl in
    subst Exp (sym (rooted st).is) (sym (equ_else c z) ∙ k.0, subst (λ ss. Lawful ss (rooted st).ks) (kids_alike equ exp c) k.1, tt)
  where
    go : (b : Bool) → equated (get_or cells at 0) ≡ b → equated (get_or cells at 0) ≡ false
    go true e = let k : kind (get_or cells at 0) ≡ 7 = grind (arith, nat_tests) in absurd (n k)
    go false e = e
