-- The parts of an expression, as the code has them. Assumes nothing.
use Rattle.std.proofs.Common.{◌≡◌, ℕ, ◌+◌, ◌-◌, [], ◌∷◌, get_or, Some, sym, refl, ap, ◌∙◌, arith}
use Rattle.terms.specs.Cells.{kind, children, cell}
use Rattle.terms.specs.Forest.{Are, Headed}
use Rattle.terms.specs.Rows.{Row, size, kind_of, ◌&◌}
use Rattle.terms.specs.Rows.Row.{none, node}
use Rattle.terms.specs.Standing.{Stands}
use Rattle.terms.specs.declared.forest.Trees.{Trees}
use Rattle.terms.proofs.Inject.{top, lawful_width}
use Rattle.terms.proofs.Steps.{moved}
use Rattle.verse.specs.Syntax.{Sort, admits, kids, Lawful, Exp, Equ}
use Rattle.verse.specs.Syntax.Sort.{val, exp, equ}
use Rattle.verse_terms.proofs.Parts.{rooted}
use Rattle.verse_terms.proofs.Shapes.{Pair, Only, sequence_parts, equation_parts, choice_parts, exists_part, one_part, all_part, no_equation}
use Rattle.verse_contexts.specs.Parts.{First, Second}

-- two parts
pub record Two (s₁ s₂ : Sort) (k : ℕ) (t : Row) (parts : Trees) : Type 0 where
  pub a : Row
  pub b : Row
  pub is : t ≡ node (cell k 0 2 0) (a & b) none
  pub left : Lawful (s₁ ∷ []) a
  pub right : Lawful (s₂ ∷ []) b
  pub count : parts.n ≡ 2
  pub first : (part : Trees) → First parts (Some part) → Are part a
  pub second : (part : Trees) → Second parts (Some part) → Are part b
  pub after : (part : Trees) → Second parts (Some part) → part.at ≡ parts.at + size a

-- one part
pub record Single (k b : ℕ) (t : Row) (parts : Trees) : Type 0 where
  pub a : Row
  pub is : t ≡ node (cell k b 1 0) a none
  pub lawful : Exp a
  pub count : parts.n ≡ 1
  pub all : Are parts a
  pub first : (part : Trees) → First parts (Some part) → Are part a

module _ (s : Sort) {trees parts : Trees} {c : ℕ} (h : Headed trees (Some (c, parts))) {t : Row} (law : Lawful (s ∷ []) t) (are : Are trees t) where
  alone : Stands t 1 trees.cells.now trees.at
  alone = moved are (sym (lawful_width admits kids (s ∷ []) t law) ∙ are.wide) refl

  pub kind_is : kind_of t ≡ kind c
  kind_is = ap kind_of (rooted alone).is ∙ ap kind (sym h.1)

  cell_is : {d : ℕ} {ks : Row} → t ≡ node d ks none → c ≡ d
  cell_is e = h.1 ∙ ap top (sym (rooted alone).is ∙ e)

  two : {s₁ s₂ : Sort} {k : ℕ} → children (cell k 0 2 0) ≡ 2 → Pair s₁ s₂ (cell k 0 2 0) t trees.cells.now trees.at → Two s₁ s₂ k t parts
  two {k = k} n p =
      let count : parts.n ≡ 2 = h.2.count ∙ ap children (cell_is p.is) ∙ n in
      let front : Stands p.a 1 parts.cells.now parts.at = rw (h.2.cells, h.2.start) p.first in
      let back : Stands p.b (parts.n - 1) parts.cells.now (parts.at + size p.a) = rw (h.2.cells, h.2.start) (moved p.second (omega arith) refl) in
      record {
        a = p.a;
        b = p.b;
        is = p.is;
        left = p.left;
        right = p.right;
        count = count;
        first = λ part f. rw (f.1.cells, f.1.start, f.1.count) front;
        second = λ part f. let g = f.1 p.a front in rw (g.cells, g.start, g.count) back;
        after = λ part f. (f.1 p.a front).start;
      }

  single : {k b : ℕ} → children (cell k b 1 0) ≡ 1 → Only exp (cell k b 1 0) t trees.cells.now trees.at → Single k b t parts
  single {k} {b} n p =
      let count : parts.n ≡ 1 = h.2.count ∙ ap children (cell_is p.is) ∙ n in
      let front : Stands p.a 1 parts.cells.now parts.at = rw (h.2.cells, h.2.start) p.first in
      record {
        a = p.a;
        is = p.is;
        lawful = p.lawful;
        count = count;
        all = moved front count refl;
        first = λ part f. rw (f.1.cells, f.1.start, f.1.count) front;
      }

  here : {k : ℕ} → kind c ≡ k → kind (get_or trees.cells.now trees.at 0) ≡ k
  here e = ap kind (sym h.1) ∙ e

  pub sequence : kind c ≡ 6 → Two equ exp 6 t parts
  sequence k = two refl (sequence_parts s alone law (here k))

  pub equation : kind c ≡ 7 → Two val exp 7 t parts
  equation k = two refl (equation_parts s alone law (here k))

  pub choice : kind c ≡ 10 → Two exp exp 10 t parts
  choice k = two refl (choice_parts s alone law (here k))

  pub exists : kind c ≡ 8 → Single 8 1 t parts
  exists k = single refl (exists_part s alone law (here k))

  pub one : kind c ≡ 11 → Single 11 0 t parts
  one k = single refl (one_part s alone law (here k))

  pub all : kind c ≡ 12 → Single 12 0 t parts
  all k = single refl (all_part s alone law (here k))

-- what a sequence begins with, if it is no equation
pub expression : {trees parts : Trees} {c : ℕ} → Headed trees (Some (c, parts)) → {q : Row} → Equ q → Are trees q → (kind c ≡ 7 → ⊥) → Exp q
unfolding alone
expression h law are n = no_equation (alone equ h law are) law (λ k. n (ap kind h.1 ∙ k))
