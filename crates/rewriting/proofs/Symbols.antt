-- A symbol with a child of a number: its cell, the trees before the child, the child, those after it. Assumes nothing.
use Rattle.std.proofs.Common.{◌≡◌, ℕ, zero, suc, ◌+◌, ◌<◌, ◌≤◌, List, get_or, replicate, sym, refl, ap, ◌∙◌, subst, arith}
use lib.ListN.{length-replicate}
use Rattle.terms.specs.Cells.{kind, children}
use Rattle.terms.specs.Rows.{Row, size, width, ◌&◌}
use Rattle.terms.specs.Rows.Row.{none, node}
use Rattle.terms.specs.Standing.{Stands}
use Rattle.terms.proofs.Inject.{top, under, inj-&, width-&, lawful_width}
use Rattle.terms.proofs.Bridge.{size-&}
use Rattle.terms.proofs.Steps.{moved}
use Rattle.lets.specs.Syntax.{admits, kids, Lawful, Term, Terms}
use Rattle.lets.specs.Syntax.Sort.{term}
use Rattle.lets.specs.Figure.{Carries}
use Rattle.lets.proofs.Laws.{one_wide}
use Rattle.lets.proofs.MoreLaws.{term_kids}
use Rattle.rewriting.proofs.Standings.{TermAt, stands_left, stands_right, cell_here, kids_here, top_here}

-- terms cut before and after the one of a number
record Cut (n : ℕ) (ks : Row) : Type 0 where
  pub before : Row
  pub e : Row
  pub after : Row
  pub letters : Terms before × Term e × Terms after
  pub number : width before ≡ n
  pub is : ks ≡ before & (e & after)

all_terms : (k : ℕ) (r : Row) → Lawful (replicate k term) r → Terms r
all_terms k r h =
    let w : width r ≡ k = lawful_width admits kids (replicate k term) r h ∙ length-replicate k term in
    subst (λ n. Lawful (replicate n term) r) (sym w) h

cut : (k n : ℕ) (ks : Row) → n < k → Lawful (replicate k term) ks → Cut n ks
cut zero n ks l h = absurd (omega arith)
cut (suc k) n none l h = absurd h
cut (suc k) zero (node c js r) l h =
    record { before = none; e = node c js none; after = r; letters = (tt, (h.0, h.1, tt), all_terms k r h.2); number = refl; is = refl }
cut (suc k) (suc n) (node c js r) l h =
    let q = cut k n r (omega arith) h.2 in
    record {
      before = node c js q.before;
      e = q.e;
      after = q.after;
      letters = ((h.0, h.1, q.letters.0), q.letters.1, q.letters.2);
      number = ap suc q.number;
      is = ap (node c js) q.is;
    }

-- a lawful symbol that has a child of the number
carries_of : (t : Row) (n : ℕ) → Term t → (32 ≤ kind (top t)) × (kind (top t) ≤ 34) → n < children (top t) → Carries n t
carries_of none n h k l = absurd h
carries_of (node c ks (node d js r)) n h k l = absurd h.2
carries_of (node c ks none) n h k l =
    let q = cut (children c) n ks l (term_kids c ks h.1).1 in
    record {
      h = c;
      before = q.before;
      e = q.e;
      after = q.after;
      head = k;
      letters = q.letters;
      number = q.number;
      is = ap (λ x. node c x none) q.is;
    }

pub here_carries : (t : Row) (n : ℕ) {at : ℕ} {cells : List ℕ} → TermAt t cells at → (32 ≤ kind (get_or cells at 0)) × (kind (get_or cells at 0) ≤ 34) → n < children (get_or cells at 0) → Carries n t
here_carries t n s k l =
    let e = sym (top_here t s) in
    carries_of t n s.lawful (subst (λ c. (32 ≤ kind c) × (kind c ≤ 34)) e k) (subst (λ c. n < children c) e l)

pub carries_same : {t : Row} {n : ℕ} (l m : Carries n t) → (l.before ≡ m.before) × (l.e ≡ m.e) × (l.after ≡ m.after)
carries_same l m =
    let a = inj-& l.before (l.e & l.after) m.before (m.e & m.after) (l.number ∙ sym m.number) (ap under (sym l.is ∙ m.is)) in
    let b = inj-& l.e l.after m.e m.after (one_wide l.e l.letters.1 ∙ sym (one_wide m.e m.letters.1)) a.1 in
    (a.0, b.0, b.1)

-- where the parts stand
module _ {t : Row} {n at : ℕ} {cells : List ℕ} (s : TermAt t cells at) (l : Carries n t) where
  whole : Stands (node l.h (l.before & (l.e & l.after)) none) 1 cells at
  whole = subst (λ u. Stands u 1 cells at) l.is s.stands

  pub head_here : l.h ≡ get_or cells at 0
  head_here = cell_here _ _ whole

  pub head_kind : (32 ≤ kind (get_or cells at 0)) × (kind (get_or cells at 0) ≤ 34)
  head_kind = subst (λ c. (32 ≤ kind c) × (kind c ≤ 34)) head_here l.head

  pub head_children : children (get_or cells at 0) ≡ n + suc (width l.after)
  head_children =
      let w = width-& l.before (l.e & l.after) in
      let v = width-& l.e l.after in
      let o = one_wide l.e l.letters.1 in
      ap children (sym head_here) ∙ whole.counted.1 ∙ omega (arith, l.number)

  pub before_at : Stands l.before n cells (at + 1)
  before_at = moved (stands_left l.before (l.e & l.after) (kids_here _ _ whole)) (sym l.number) refl

  pub child_at : (i : ℕ) → i ≡ at + 1 + size l.before → TermAt l.e cells i
  child_at i e =
      record {
        lawful = l.letters.1;
        stands = moved (stands_left l.e l.after (stands_right l.before (l.e & l.after) (kids_here _ _ whole))) (sym (one_wide l.e l.letters.1)) e;
      }

  pub after_at : (i j m : ℕ) → i ≡ at + 1 + size l.before → j ≡ i + size l.e → m ≡ width l.after → Stands l.after m cells j
  after_at i j m e f g =
      moved (stands_right l.e l.after (stands_right l.before (l.e & l.after) (kids_here _ _ whole))) g (omega (arith, e, f))

  pub carries_size : size t ≡ suc (size l.before + (size l.e + size l.after))
  carries_size = omega (arith, ap size l.is, size-& l.before (l.e & l.after), size-& l.e l.after)
