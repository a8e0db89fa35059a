-- A lawful tree by its first cell: the form that it has, and where its parts lie. Assumes nothing.
use Rattle.std.proofs.Common.{◌≡◌, ℕ, ◌≤◌, List, [], ◌∷◌, IsErrAnd, Some, None, Ok, Err, Option, Result, sym, refl, ap, ◌∙◌, subst, arith}
use Rattle.std.specs.Option.{ok_or}
use Rattle.std.specs.Borrow.{Bor}
use Rattle.calculus.specs.declared.no.No.{No}
use Rattle.calculus.specs.declared.no.No.TheVariants.{Formless}
use Rattle.pieces.specs.Parts.{Topped, Single, Paired}
use Rattle.terms.specs.Cells.{kind, cell}
use Rattle.terms.specs.Rows.{Row, flat, width, ◌&◌, var}
use Rattle.terms.specs.Rows.Row.{none, node}
use Rattle.terms.proofs.Inject.{lawful_width}
use Rattle.verse.specs.Syntax.{Sort, admits, kids, Lawful, Val, Hnf, Term, int, eqn}
use Rattle.verse.specs.Syntax.Sort.{val, exp, equ}
use Rattle.verse_rules.specs.Reads.{Reads, Two, Sole, Leaf, LeafOf, Headed}
use Rattle.verse.proofs.Meaning.{lawful_counted}
use Rattle.verse_rules.proofs.Ranges.{value_tree, head_tree, tree_value, tree_head, variable_tree, integer_tree}

-- a term that fills the cells
pub whole_reads : {t : Row} {cells : List ℕ} → Term t → flat t ≡ cells → Reads exp t cells
whole_reads {t} h e =
    record { lawful = h; is = record { one = lawful_width admits kids (exp ∷ []) t h; counted = lawful_counted (exp ∷ []) t h; reads = e } }

-- trees side by side
pub lawful_first : (r : Sort) (ss : List Sort) (a b : Row) → width a ≡ 1 → Lawful (r ∷ ss) (a & b) → Lawful (r ∷ []) a × Lawful ss b
lawful_first r ss none b w h = absurd (omega arith)
lawful_first r ss (node c ks none) b w h = ((h.0, h.1, tt), h.2)
lawful_first r ss (node c ks (node d js q)) b w h = absurd (omega arith)

-- the exit with a reader's answer
pub erred : {X : Type 0} {g : No} (P : Result X No → Type 0) (r : Result X No) (f : No) → IsErrAnd r (λ y. y ≡ f) → f ≡ g → P (Err g) → P r
erred P (Ok n) f h k w = absurd h
erred P (Err e) f h k w = subst (λ y. P (Err y)) (sym (h ∙ k)) w

-- the error of a missing value
pub none_or : {X : Type 0} (o : Option X) (f g : No) → Err f ≡ ok_or o g → o ≡ None → f ≡ g
none_or (Some x) f g e n = cc n
none_or None f g e n = cc e

-- a cell over one tree and over two, with the sorts of the children that it has
module _ (s : Sort) (t : Row) (part : List ℕ) (c : ℕ) (h : Reads s t part) where
  pub sole : (r : Sort) (o : Option (Bor (List ℕ))) (a : Result (Bor (List ℕ)) No) → kids s c ≡ r ∷ [] → Single c t o → a ≡ ok_or o Formless → Sole (λ x. node c x none) r t a
  sole r (Some p) a k (x, is, l) e =
      let g = subst (Lawful (s ∷ [])) is h.lawful in
      subst (Sole (λ y. node c y none) r t) (sym e) (x, is, record { lawful = subst (λ ss. Lawful ss x) k g.1; is = l })
  sole r None a k n e = subst (Sole (λ y. node c y none) r t) (sym e) (refl, n)

  pub twofold : (q r : Sort) (o : Option (Bor (List ℕ) × Bor (List ℕ))) (a : Result (Bor (List ℕ) × Bor (List ℕ)) No) → kids s c ≡ q ∷ r ∷ [] → Paired c t o → a ≡ ok_or o Formless → Two (λ x y. node c (x & y) none) q r t a
  twofold q r (Some p) a k (x, y, is, l, m) e =
      let g = subst (Lawful (s ∷ [])) is h.lawful in
      let w = lawful_first q (r ∷ []) x y l.one (subst (λ ss. Lawful ss (x & y)) k g.1) in
      subst (Two (λ x y. node c (x & y) none) q r t) (sym e) (x, y, is, record { lawful = w.0; is = l }, record { lawful = w.1; is = m })
  twofold q r None a k n e = subst (Two (λ x y. node c (x & y) none) q r t) (sym e) (refl, n)

-- values and heads, by the kind
module _ (t : Row) (c : ℕ) (x : Topped t (Some c)) where
  pub is_value : (s : Sort) (part : List ℕ) → Reads s t part → kind c ≤ 4 → Reads val t part
  is_value s part h l =
      record { lawful = subst Val (sym x.1) (value_tree s c x.0 (subst (Lawful (s ∷ [])) x.1 h.lawful) l); is = h.is }

  pub no_value : 5 ≤ kind c → Val t → ⊥
  no_value l h = let k = tree_value c x.0 (subst Val x.1 h) in omega (arith, k, l)

  pub no_head : kind c ≡ 0 → Hnf t → ⊥
  no_head e h = let r = tree_head c x.0 (subst Hnf x.1 h) in omega (arith, r.0, e)

  pub value_head : (part : List ℕ) → (kind c ≡ 0 → ⊥) → Reads val t part → Headed part t (Ok c)
  value_head part n w =
      let v = subst Val x.1 w.lawful in
      (x.0, x.1, record { lawful = subst Hnf (sym x.1) (head_tree val c x.0 v (omega arith) (tree_value c x.0 v)); is = w.is })

-- a leaf of a kind as a variable and as an integer
module _ (s : Sort) (t : Row) (part : List ℕ) (h : Reads s t part) where
  pub as_variable : (r : Result ℕ No) → LeafOf 0 t r → Leaf var t r
  as_variable (Ok k) (c, x, z, e) =
      (omega (arith, e), x.1 ∙ variable_tree s c x.0 (subst (Lawful (s ∷ [])) x.1 h.lawful) z ∙ ap var (sym e))
  as_variable (Err e) (f, n) = (f, λ k w i. n (cell 0 0 0 k) (none, i) (omega (arith, w)))

  pub as_integer : (r : Result ℕ No) → LeafOf 1 t r → Leaf int t r
  as_integer (Ok k) (c, x, z, e) =
      (omega (arith, e), x.1 ∙ integer_tree s c x.0 (subst (Lawful (s ∷ [])) x.1 h.lawful) z ∙ ap int (sym e))
  as_integer (Err e) (f, n) = (f, λ k w i. n (cell 1 0 0 k) (none, i) (omega (arith, w)))

-- v = b, and v = b; e, from their cells
pub equated : (q : Row) (part : List ℕ) (o : Option (Bor (List ℕ) × Bor (List ℕ))) (a : Result (Bor (List ℕ) × Bor (List ℕ)) No) → Reads equ q part → Paired (cell 7 0 2 0) q o → a ≡ ok_or o Formless → Two eqn val exp q a
unfolding kids
equated q part o a h w e = twofold equ q part (cell 7 0 2 0) h val exp o a refl w e
