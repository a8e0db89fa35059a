-- Results are unique: a redex has the left side of a line in one way only.
use Rattle.std.proofs.Common.{◌≡◌, ℕ, zero, suc, ◌+◌, ◌-◌, ◌<◌, ◌≤◌, Bool, true, false, cond, eqb, ltb, List, [], ◌∷◌, length, get_or, replicate, sym, refl, ap, ◌∙◌, subst, ap₂, inl, inr, ⊎_elim, arith}
use Rattle.std.proofs.lemmas.Bool.Decides.{nat_tests}
use Rattle.calculus.specs.Line as Line
use Rattle.terms.specs.Lists.{In, count}
use Rattle.terms.specs.Cells.{kind, binder, children, payload, cell}
use Rattle.terms.specs.Rows.{Row, width, ◌&◌, var, pick, up, down, up_beyond, substitute, instantiate, frees, fvs, above}
use Rattle.terms.specs.Rows.Row.{none, node}
use Rattle.terms.proofs.Inject.{top, under, inj-&, lawful_width}
use Rattle.terms.proofs.Moves.{in_row, own_is, ground}
use Rattle.calculus.proofs.Single.{answer}
use Rattle.lets.specs.Syntax.{fun, let_in, arrow, admits, kids, Lawful, Term, ProgramRule, ProgramRules}
use Rattle.lets.specs.Syntax.Sort.{term, left, pattern}
use Rattle.lets.specs.Figure.{Rule, Match, binding, Called, Let, Lets, Carries, figure, line, Says, HasRule, Apt}
use Rattle.lets.specs.Figure as Figure
use Rattle.lets.specs.Laws.{OneAnswer}

two : (c d : ℕ) (a b p q : Row) → width a ≡ width p → node c (a & b) none ≡ node d (p & q) none → (a ≡ p) × (b ≡ q)
two c d a b p q w e = inj-& a b p q w (ap under e)

wide : (t u : Row) → Term t → Term u → width t ≡ width u
wide t u h k = lawful_width admits kids (term ∷ []) t h ∙ sym (lawful_width admits kids (term ∷ []) u k)

-- what counts is there
pub count_in : (x : ℕ) (l : List ℕ) → 1 ≤ count x l → In x l
count_in x [] h = absurd (omega arith)
count_in x (y ∷ l) h = go (eqb x y) refl (count_in x l) h
  where
    go : (q : Bool) → eqb x y ≡ q → (1 ≤ count x l → In x l) → 1 ≤ cond q 1 0 + count x l → In x (y ∷ l)
    go true e ih k = inl (grind (arith, nat_tests))
    go false e ih k = inr (ih (omega arith))

-- patterns have no binders, and their variables no children
abbrev pub Flat : Row → Type 0
Flat none = Unit {0}
Flat (node c ks r) = (binder c ≡ 0) × (kind c ≡ 0 → ks ≡ none) × Flat ks × Flat r

pub pattern_cell : (c : ℕ) → admits pattern c ≡ true → (binder c ≡ 0) × (kind c ≡ 0 → children c ≡ 0)
unfolding admits
pattern_cell c h = (grind (arith, nat_tests), λ k. grind (arith, nat_tests))

pub flat : (p : Row) (n : ℕ) → Lawful (replicate n pattern) p → Flat p
unfolding kids
flat none n h = tt
flat (node c ks r) zero h = absurd h
flat (node c ks r) (suc n) h =
    let q = pattern_cell c h.0 in
    (q.0, λ k. bare ks (children c) h.1 (q.1 k), flat ks (children c) h.1, flat r n h.2)
  where
    bare : (ks : Row) (n : ℕ) → Lawful (replicate n pattern) ks → n ≡ 0 → ks ≡ none
    bare none n h e = refl
    bare (node d js s) zero h e = absurd h
    bare (node d js s) (suc n) h e = absurd (omega (arith, e))

-- two matches bind a variable of the patterns to the same term
bind_same : (x : ℕ) (a b p ts : Row) → Flat p → Match a p ts → Match b p ts → In x (fvs p) → pick a x [] ≡ pick b x []
bind_same x a b none ts f m n i = absurd i
bind_same x a b (node c ks r) none f m n i = absurd m
bind_same x a b (node c ks r) (node d js s) f m n i =
    let z = ground r in
    ⊎_elim
    (λ o.
    let w = own_is x (above 0 0 r) c o in
    let y : payload c ≡ x = omega (arith, w.1, z) in
    let p = subst (λ k. cond (eqb k 0) (binding a (payload c) ≡ node d js none) ((c ≡ d) × Match a ks js)) w.0 m.0 in
    let q = subst (λ k. cond (eqb k 0) (binding b (payload c) ≡ node d js none) ((c ≡ d) × Match b ks js)) w.0 n.0 in
    subst (λ k. pick a k [] ≡ pick b k []) y (p ∙ sym q))
    (λ u. ⊎_elim
    (λ o. deep (eqb (kind c) 0) refl m.0 n.0 (λ v w. bind_same x a b ks js f.2 v w)
    (subst (λ k. In x (frees 0 k ks)) f.0 (subst (λ k. In x (frees k (binder c) ks)) z o)))
    (λ o. bind_same x a b r s f.3 m.1 n.1 o) u)
    (in_row x 0 0 c ks r i)
  where
    deep : (q : Bool) → eqb (kind c) 0 ≡ q → cond q (binding a (payload c) ≡ node d js none) ((c ≡ d) × Match a ks js) → cond q (binding b (payload c) ≡ node d js none) ((c ≡ d) × Match b ks js) →
        (Match a ks js → Match b ks js → In x (fvs ks) → pick a x [] ≡ pick b x []) → In x (fvs ks) → pick a x [] ≡ pick b x []
    deep true e v w ih o = let k : kind c ≡ 0 = grind (arith, nat_tests) in absurd (subst (λ t. In x (fvs t)) (f.1 k) o)
    deep false e v w ih o = ih v.1 w.1 o

-- rows with the same trees
pub rows_same : (a b : Row) → width a ≡ width b → ((x : ℕ) → x < width a → pick a x [] ≡ pick b x []) → a ≡ b
rows_same none none w h = refl
rows_same none (node d js s) w h = absurd (omega arith)
rows_same (node c ks r) none w h = absurd (omega arith)
rows_same (node c ks r) (node d js s) w h =
    let e = h 0 (omega arith) in
    let x = ap top e in
    let y = ap under e in
    let q = rows_same r s (omega arith) (λ n l. h (suc n) (omega arith)) in
    cc (x, y, q)

-- the rule that is numbered
pub rule_of : (program : Row) (i : ℕ) (t : Row) → ProgramRules program → pick program i [] ≡ t → (t ≡ none → ⊥) → ProgramRule t
rule_of none i t h e n = absurd (n (sym e))
rule_of (node c ks r) zero t h e n = subst ProgramRule e h.0
rule_of (node c ks r) (suc i) t h e n = rule_of r i t h.1 e n

pub left_cell : (c : ℕ) → admits left c ≡ true → (binder c ≡ 0) × (kind c ≡ 33)
unfolding admits
left_cell c h = (grind (arith, nat_tests), grind (arith, nat_tests))

-- one right side, and one range, of a line, given a program
abbrev Same : Row → Rule → Type 0
Same program r = (argument : ℕ) (t : Row) (l m : (r program argument t).Left) → (r program argument t).right l ≡ (r program argument t).right m

abbrev Single : Row → Rule → Type 0
Single program r = Same program r × ((argument : ℕ) (t : Row) (l m : (r program argument t).Left) → (r program argument t).Fits l → (r program argument t).Fits m)

module _ (program : Row) (rules : ProgramRules program) where
  some_node : (c : ℕ) (ks r : Row) → node c ks r ≡ none → ⊥
  some_node c ks r e = let p : ◌≡◌ {A = ℕ} 1 0 = ap one_or_none e in omega (arith, p)
    where
      one_or_none : Row → ℕ
      one_or_none none = 0
      one_or_none (node c ks r) = 1

  s1 : Same program Figure.fapp
  unfolding kids
  s1 argument t l m =
      let a = two _ _ (fun l.f l.p) l.r (fun m.f m.p) m.r refl (sym l.numbered ∙ m.numbered) in
      let p = ap under a.0 in
      let ts : m.ts ≡ l.ts = sym (⊎_elim (λ e. ap under e) (λ e. ap under e) m.is) ∙ ⊎_elim (λ e. ap under e) (λ e. ap under e) l.is in
      let w = l.bound ∙ ap (λ u. length (fvs u)) a.0 ∙ sym m.bound in
      let pr = rule_of program argument (arrow (fun l.f l.p) l.r) rules l.numbered (some_node _ _ _) in
      let le = (two _ _ pr.l pr.r (fun l.f l.p) l.r (lawful_width admits kids (left ∷ []) pr.l pr.lawful.0) (sym pr.is)).0 in
      let law = subst (Lawful (left ∷ [])) le pr.lawful.0 in
      let lc = left_cell (cell 33 0 (width l.p) l.f) law.0 in
      let fl = flat l.p (children (cell 33 0 (width l.p) l.f)) law.1 in
      let mm = subst (λ u. Match m.θ u l.ts) (sym p) (subst (Match m.θ m.p) ts m.matched) in
      let θ = rows_same l.θ m.θ w (λ x h.
      let n : x < length (fvs (fun l.f l.p)) = subst (λ k. x < k) l.bound h in
      let c = subst (λ u. count x (fvs u) ≡ cond (ltb x (length (fvs u))) 1 0) le (pr.once x) in
      let k : 1 ≤ count x (fvs (fun l.f l.p)) = grind (arith, nat_tests, c, n) in
      let i = count_in x (fvs (fun l.f l.p)) k in
      bind_same x l.θ m.θ l.p l.ts fl l.matched mm
      (⊎_elim
      (λ o. absurd (let q = (own_is x 0 (cell 33 0 (width l.p) l.f) o).0 in omega (arith, q, lc.1)))
      (λ u. ⊎_elim (λ o. subst (λ z. In x (frees 0 z l.p)) lc.0 o) (λ o. absurd o) u)
      (in_row x 0 0 (cell 33 0 (width l.p) l.f) l.p none i))) in
      ap₂ (λ θ r. substitute (binding θ) 0 0 r) θ a.1

  s2 : Same program Figure.letin
  s2 argument t l m =
      let e = sym l.is ∙ m.is in
      let h = ap top e in
      let a = inj-& l.before (l.e & l.after) m.before (m.e & m.after) (l.number ∙ sym m.number) (ap under e) in
      let b = inj-& l.e l.after m.e m.after (wide l.e m.e l.letters.1 m.letters.1) a.1 in
      ap₂ (λ x k. let_in x (node k (up l.before & (var 0 & up l.after)) none)) b.0 h ∙ ap₂ (λ x y. let_in m.e (node m.h (up x & (var 0 & up y)) none)) a.0 b.1

  let_same : (t : Row) (l m : Let t) → (l.a ≡ m.a) × (l.e ≡ m.e)
  let_same t l m = two _ _ l.a l.e m.a m.e (wide l.a m.a l.letters.0 m.letters.0) (sym l.is ∙ m.is)

  s3 : Same program Figure.bind
  s3 argument t l m = let p = let_same t l m in ap₂ instantiate p.0 p.1

  s4 : Same program Figure.elim_let
  s4 argument t l m = ap down (let_same t l m).1

  s5 : Same program Figure.flatten
  s5 argument t l m =
      let a = two _ _ (let_in l.a l.b) l.e (let_in m.a m.b) m.e refl (sym l.is ∙ m.is) in
      let b = two _ _ l.a l.b m.a m.b (wide l.a m.a l.letters.0 m.letters.0) a.0 in
      ap₂ (λ x y. let_in x (let_in y (up_beyond l.e))) b.0 b.1 ∙ ap (λ e. let_in m.a (let_in m.b (up_beyond e))) a.1

  abbrev Singles : List Rule → Type 0
  Singles [] = Unit {0}
  Singles (r ∷ rs) = Single program r × Singles rs

  chosen : (rs : List Rule) (i : ℕ) (d : Rule) → Singles rs → Single program d → Single program (get_or rs i d)
  chosen [] i d h k = k
  chosen (r ∷ rs) zero d h k = h.0
  chosen (r ∷ rs) (suc i) d h k = chosen rs i d h.1 k

  single : (n : ℕ) → Single program (line n)
  single n =
      chosen figure (n - 1) (λ program argument t. Line.always ⊥ (λ l. t))
      ((s1, λ argument t l m f. tt), ((s2, λ argument t l m f. tt), ((s3, λ argument t l m f. tt), ((s4, λ argument t l m f. tt), ((s5, λ argument t l m f. tt), tt)))))
      (λ argument t l m. absurd l, λ argument t l m f. absurd l)

pub one_answer : OneAnswer
one_answer program n argument inner t a b rules g h =
    let s = single program rules n in
    answer (HasRule n) (Apt program n argument inner) (line n program argument t) (s.0 argument t, s.1 argument t) a b g h
