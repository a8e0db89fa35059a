-- Both laws for Elim, LetIn and Fapp, and for the whole figure.
use Rattle.std.proofs.Common.{◌≡◌, ℕ, zero, suc, ◌+◌, ◌-◌, ◌^◌, ◌<◌, ◌≤◌, Bool, true, false, cond, eqb, ltb, leb, List, [], ◌∷◌, length, get_or, replicate, sym, refl, ap, ◌∙◌, subst, ap₂, ⊎_elim, arith}
use Rattle.std.proofs.lemmas.Bool.Decides.{nat_tests}
use Rattle.terms.specs.Lists.{In, count}
use Rattle.terms.specs.Cells.{kind, binder, children, payload, cell, loose}
use Rattle.terms.specs.Rows.{Row, size, width, ◌&◌, var, frees, fvs, above, own, Free, Below, up, rename, raise, substitute, instead, pick, put}
use Rattle.terms.specs.Rows.Row.{none, node}
use Rattle.terms.specs.Grammar.{At}
use Rattle.calculus.specs.Line.{Gives}
use Rattle.terms.proofs.Inject.{lawful_width, inj-&, under, width-&}
use Rattle.terms.proofs.Bridge.{substitute_size}
use Rattle.terms.proofs.Moves.{Low, Every, rename_frees, rename_lawful, substitute_frees, substitute_lawful, free_var, free-&, free_left, free_right, plain_in, plain_out, in_row, in_kids, in_own, in_next, own_is, is_own, ground, above_le}
use Rattle.lets.specs.Syntax.{Sort, fun, arrow, admits, kids, Lawful, Term, Terms, Site, ProgramRules}
use Rattle.lets.specs.Syntax.Sort.{term, left}
use Rattle.lets.specs.Figure.{Rule, Match, binding, figure, line, Called}
use Rattle.lets.specs.Laws.{Held, FirstOf, SecondOf, FirstLaw, SecondLaw}
use Rattle.lets.specs.Meaning.{KeepsLaws}
use Rattle.lets.proofs.Within.{Within, FirstWithin, SecondWithin, first_held, second_held, first_short, second_short}
use Rattle.lets.proofs.Meaning.{suffices, formed}
use Rattle.lets.proofs.Laws.{leaf, one_wide, beside, variables, lows, below-&, let_body, let_free, let_term, instead_wide, bind_first, bind_second, body_size, flat_first, flat_second}
use Rattle.lets.proofs.Unique.{count_in, rule_of, left_cell, Flat, flat}

-- renaming of rows by a function that adds at most 1
module _ (f : ℕ → ℕ) (grows : (n : ℕ) → f n ≤ n + 1) (ss : List Sort) (v : Row) (l : Lawful ss v) (b : Below 65535 v) where
  pub renamed : Lawful ss (rename f 0 0 v)
  renamed = rename_lawful f 1 65535 grows (omega arith) admits kids variables 0 0 ss v (lows 65535 ss v l b) l

  pub renamed_free : (x : ℕ) → Free x (rename f 0 0 v) → (y : ℕ) × Free y v × (x ≡ f y)
  renamed_free x i = rename_frees f 1 65535 grows (omega arith) x 0 0 v (lows 65535 ss v l b) i

-- 4 Elim
pub first_4 : FirstWithin 4
first_4 program argument t u rules h g =
    let l = g.0 in
    let b = (below-& 65535 l.a l.e (subst (Below 65535) l.is h.low).1).1 in
    subst Term (sym g.3) (renamed (λ n. n - 1) (λ n. omega arith) (term ∷ []) l.e l.letters.1 b)

pub second_4 : SecondWithin 4
second_4 program argument t u rules h g x f =
    let l = g.0 in
    let b = (below-& 65535 l.a l.e (subst (Below 65535) l.is h.low).1).1 in
    let o = renamed_free (λ n. n - 1) (λ n. omega arith) (term ∷ []) l.e l.letters.1 b x (subst (Free x) g.3 f) in
    subst (Free x) (sym l.is) (let_body x l.a l.e l.letters.0 l.letters.1 (go l.e o.0 o.1 o.2 g.1))
  where
    go : (e : Row) (y : ℕ) → Free y e → x ≡ y - 1 → (Free 0 e → ⊥) → Free (x + 1) e
    go e zero i q n = absurd (n i)
    go e (suc y) i q n = let z : suc y ≡ x + 1 = omega (arith, q) in subst (λ k. Free k e) z i

-- 2 LetIn
length_replicate : (n : ℕ) (s : Sort) → length (replicate n s) ≡ n
length_replicate zero s = refl
length_replicate (suc n) s = ap suc (length_replicate n s)

join : (n m k : ℕ) (a b : Row) → n ≡ m + k → Lawful (replicate m term) a → Lawful (replicate k term) b → Lawful (replicate n term) (a & b)
join n zero k none b e h l = let z : k ≡ n = omega (arith, e) in subst (λ j. Lawful (replicate j term) b) z l
join n zero k (node c ks r) b e h l = absurd h
join n (suc m) k none b e h l = absurd h
join zero (suc m) k (node c ks r) b e h l = absurd (omega (arith, e))
join (suc n) (suc m) k (node c ks r) b e h l = (h.0, h.1, join n m k r b (omega (arith, e)) h.2 l)

pub var_term : (n : ℕ) → n < 2 ^ 32 → Term (var n)
unfolding admits kids
var_term n z =
    let e : children (cell 0 0 0 n) ≡ 0 = omega arith in
    ((variables term 0 n refl refl z).0, subst (λ k. Lawful (replicate k term) none) (sym e) tt, tt)

-- a symbol's cell has no binder
symbol_cell : (h : ℕ) → admits term h ≡ true → 32 ≤ kind h → kind h ≤ 34 → binder h ≡ 0
unfolding admits
symbol_cell h a k l = grind (arith, nat_tests, k, l)

-- the children of a term
pub term_kids : (c : ℕ) (ks : Row) → Lawful (kids term c) ks → (width ks ≡ children c) × Lawful (replicate (children c) term) ks
unfolding kids
term_kids c ks h = (lawful_width admits kids (replicate (children c) term) ks h ∙ length_replicate (children c) term, h)

kids_term : (c : ℕ) (ks : Row) → Lawful (replicate (children c) term) ks → Lawful (kids term c) ks
unfolding kids
kids_term c ks h = h

-- what LetIn's body is
module _ (h : ℕ) (before e after : Row) (a : admits term h ≡ true) (low : Below 65535 (before & (e & after)))
    (tb : Terms before) (te : Term e) (ta : Terms after) (n : children h ≡ width after + 1 + width before) where
  lowb : Below 65535 before
  lowb = (below-& 65535 before (e & after) low).0

  lowa : Below 65535 after
  lowa = (below-& 65535 e after (below-& 65535 before (e & after) low).1).1

  abbrev inner : Row
  inner = up before & (var 0 & up after)

  body_term : Term (node h inner none)
  body_term =
      let b = renamed (λ n. n + 1) (λ n. omega arith) (replicate (width before) term) before tb lowb in
      let c = renamed (λ n. n + 1) (λ n. omega arith) (replicate (width after) term) after ta lowa in
      (a, kids_term h inner (join (children h) (width before) (suc (width after)) (up before) (var 0 & up after) (omega (arith, n)) b (beside term (replicate (width after) term) (var 0) (up after) (var_term 0 (omega arith)) c)), tt)

  lifted : (x : ℕ) (m : ℕ) (r : Row) → Lawful (replicate m term) r → Below 65535 r → Free (x + 1) (up r) → Free x r
  lifted x m r l b f =
      let o = renamed_free (λ n. n + 1) (λ n. omega arith) (replicate m term) r l b (x + 1) f in
      let q = o.2 in
      let y : o.0 ≡ x = omega (arith, q) in
      subst (λ n. Free n r) y o.1

  inner_free : (x : ℕ) → Free (x + 1) inner → Free x (before & (e & after))
  inner_free x f =
      ⊎_elim
      (λ i. free_left x before (e & after) (lifted x (width before) before tb lowb i))
      (λ i. ⊎_elim
      (λ j. let z = free_var (x + 1) 0 (omega arith) j in absurd (omega (arith, z)))
      (λ j. free_right x before (e & after) (free_right x e after (lifted x (width after) after ta lowa j)))
      (free-& (x + 1) (var 0) (up after) i))
      (free-& (x + 1) (up before) (var 0 & up after) f)

-- the count of the children
counted : (h : ℕ) (before e after : Row) → Lawful (kids term h) (before & (e & after)) → Term e → children h ≡ width after + 1 + width before
counted h before e after l te =
    let w = (term_kids h (before & (e & after)) l).0 in
    omega (arith, w, width-& before (e & after), width-& e after, one_wide e te)

pub first_2 : FirstWithin 2
first_2 program argument t u rules held g =
    let l = g.0 in
    let k = subst Term l.is held.lawful in
    let low = subst (Below 65535) l.is held.low in
    let n = counted l.h l.before l.e l.after k.1 l.letters.1 in
    subst Term (sym g.3) (let_term l.e (node l.h (up l.before & (var 0 & up l.after)) none) l.letters.1
    (body_term l.h l.before l.e l.after k.0 low.1 l.letters.0 l.letters.1 l.letters.2 n))

pub second_2 : SecondWithin 2
second_2 program argument t u rules held g x f =
    let l = g.0 in
    let k = subst Term l.is held.lawful in
    let low = subst (Below 65535) l.is held.low in
    let n = counted l.h l.before l.e l.after k.1 l.letters.1 in
    let body = node l.h (up l.before & (var 0 & up l.after)) none in
    let bt = body_term l.h l.before l.e l.after k.0 low.1 l.letters.0 l.letters.1 l.letters.2 n in
    let bind = symbol_cell l.h k.0 l.head.0 l.head.1 in
    let nonvar : kind l.h ≡ 0 → ⊥ = λ z. omega (arith, z, l.head.0) in
    let row = l.before & (l.e & l.after) in
    subst (Free x) (sym l.is) (plain_out l.h row nonvar bind x
    (⊎_elim
    (λ i. free_right x l.before (l.e & l.after) (free_left x l.e l.after i))
    (λ i. inner_free l.h l.before l.e l.after k.0 low.1 l.letters.0 l.letters.1 l.letters.2 n x
    (plain_in l.h (up l.before & (var 0 & up l.after)) nonvar bind (x + 1) i))
    (let_free x l.e body l.letters.1 bt (subst (Free x) g.3 f))))

-- 1 Fapp

-- substitution looks at the free numbers only
pub substitute_same : (s s' : ℕ → Row) (d b : ℕ) (t : Row) → ((n : ℕ) → In n (frees d b t) → s n ≡ s' n) → substitute s d b t ≡ substitute s' d b t
substitute_same s s' d b none h = refl
substitute_same s s' d b (node c ks r) h =
    ap₂ (λ x y. x & y)
    (go (above d b r) (loose (above d b r) c) refl (λ n i. h n (in_own n d b c ks r i)) (substitute_same s s' (above d b r) (binder c) ks (λ n i. h n (in_kids n d b c ks r i))))
    (substitute_same s s' d b r (λ n i. h n (in_next n d b c ks r i)))
  where
    go : (e : ℕ) (q : Bool) → loose e c ≡ q → ((n : ℕ) → In n (own e c) → s n ≡ s' n) → substitute s e (binder c) ks ≡ substitute s' e (binder c) ks →
        cond q (raise e (s (payload c - e))) (node c (substitute s e (binder c) ks) none) ≡ cond q (raise e (s' (payload c - e))) (node c (substitute s' e (binder c) ks) none)
    go e true l o ih =
        let k : kind c ≡ 0 = grind (arith, nat_tests) in
        let j : e ≤ payload c = grind (arith, nat_tests) in
        ap (raise e) (o (payload c - e) (is_own (payload c - e) e c k (omega (arith, j))))
    go e false l o ih = ap (λ x. node c x none) ih

-- variables of a row whose free numbers are below n have payloads below n and the binders above
pub low_free : (n m d b : ℕ) (ss : List Sort) (t : Row) → Lawful ss t → ((x : ℕ) → In x (frees d b t) → x < n) → n + d + b + size t ≤ m → Low m t
low_free n m d b [] none l h z = tt
low_free n m d b [] (node c ks r) l h z = absurd l
low_free n m d b (s ∷ ss) none l h z = absurd l
low_free n m d b (s ∷ ss) (node c ks r) l h z =
    let a = above_le d b r in
    let bs : binder c ≤ 1 = omega arith in (
      λ k. own_low k (leaf s c l.0 k) a (leb (above d b r) (payload c)) refl,
      low_free n m (above d b r) (binder c) (kids s c) ks l.1 (λ x i. h x (in_kids x d b c ks r i)) (omega (arith, z, a, bs)),
      low_free n m d b ss r l.2 (λ x i. h x (in_next x d b c ks r i)) (omega (arith, z)),
    )
  where
    own_low : kind c ≡ 0 → c ≡ payload c → above d b r ≤ d + b → (q : Bool) → leb (above d b r) (payload c) ≡ q → c ≤ m
    own_low k e a true q =
        let j : above d b r ≤ payload c = grind (arith, nat_tests) in
        let y = h (payload c - above d b r) (in_own (payload c - above d b r) d b c ks r (is_own (payload c - above d b r) (above d b r) c k (omega (arith, j)))) in
        omega (arith, e, y, a, j, z)
    own_low k e a false q =
        let j : payload c < above d b r = grind (arith, nat_tests) in
        omega (arith, e, a, j, z)

-- the tree of a number in a row
pick_term : (n : ℕ) (θ : Row) (i : ℕ) → Lawful (replicate n term) θ → i < width θ → Term (pick θ i [])
pick_term n none i h z = absurd (omega arith)
pick_term zero (node c ks r) i h z = absurd h
pick_term (suc n) (node c ks r) zero h z = (h.0, h.1, tt)
pick_term (suc n) (node c ks r) (suc i) h z = pick_term n r i h.2 (omega arith)

-- what a variable of the patterns is bound to is a part of what they match
pub bound_part : (m x : ℕ) (θ p ts : Row) → Flat p → Match θ p ts → Below m ts → In x (fvs p) → Below m (binding θ x) × ((y : ℕ) → Free y (binding θ x) → Free y ts)
bound_part m x θ none ts f w b i = absurd i
bound_part m x θ (node c ks r) none f w b i = absurd w
bound_part m x θ (node c ks r) (node d js s) f w b i =
    let z = ground r in
    ⊎_elim
    (λ o.
    let q = own_is x (above 0 0 r) c o in
    let e : payload c ≡ x = omega (arith, q.1, z) in
    let is = subst (λ k. cond (eqb k 0) (binding θ (payload c) ≡ node d js none) ((c ≡ d) × Match θ ks js)) q.0 w.0 in
    let is' : binding θ x ≡ node d js none = subst (λ k. binding θ k ≡ node d js none) e is in
    (subst (Below m) (sym is') (b.0, b.1, tt), λ y j. free_left y (node d js none) s (subst (Free y) is' j)))
    (λ u. ⊎_elim
    (λ o. deep (eqb (kind c) 0) refl w.0 (λ v. bound_part m x θ ks js f.2 v b.1)
    (subst (λ k. In x (frees 0 k ks)) f.0 (subst (λ k. In x (frees k (binder c) ks)) z o)))
    (λ o. let q = bound_part m x θ r s f.3 w.1 b.2 o in (q.0, λ y j. free_right y (node d js none) s (q.1 y j))) u)
    (in_row x 0 0 c ks r i)
  where
    deep : (q : Bool) → eqb (kind c) 0 ≡ q → cond q (binding θ (payload c) ≡ node d js none) ((c ≡ d) × Match θ ks js) →
        (Match θ ks js → In x (fvs ks) → Below m (binding θ x) × ((y : ℕ) → Free y (binding θ x) → Free y js)) → In x (fvs ks) →
        Below m (binding θ x) × ((y : ℕ) → Free y (binding θ x) → Free y (node d js s))
    deep true e v ih o = let k : kind c ≡ 0 = grind (arith, nat_tests) in absurd (subst (λ t. In x (fvs t)) (f.1 k) o)
    deep false e v ih o =
        let q = ih v.1 o in
        let bd : binder d ≡ 0 = subst (λ k. binder k ≡ 0) v.0 f.0 in
        (q.0, λ y j. in_kids y 0 0 d js s (subst (λ k. In y (frees k (binder d) js)) (sym (ground s)) (subst (λ k. In y (frees 0 k js)) (sym bd) (q.1 y j))))

-- the rule that is numbered
some_node : (c : ℕ) (ks r : Row) → node c ks r ≡ none → ⊥
some_node c ks r e = let p : ◌≡◌ {A = ℕ} 1 0 = ap one_or_none e in omega (arith, p)
  where
    one_or_none : Row → ℕ
    one_or_none none = 0
    one_or_none (node c ks r) = 1

-- what a program rule f(p) → r says
pub record Rewrites (f : ℕ) (p r : Row) : Type 0 where
  pub plainly : Flat p
  pub term_right : Term r
  pub low_right : Low 65535 r
  pub small : size r ≤ 2048
  pub every : (x : ℕ) → x < length (fvs (fun f p)) → In x (fvs p)
  pub only : (x : ℕ) → Free x r → x < length (fvs (fun f p))

pub rewrites : (program : Row) (argument f : ℕ) (p r : Row) → ProgramRules program → pick program argument [] ≡ arrow (fun f p) r → Rewrites f p r
unfolding kids
rewrites program argument f p r rules e =
    let pr = rule_of program argument (arrow (fun f p) r) rules e (some_node _ _ _) in
    let both = inj-& pr.l pr.r (fun f p) r (lawful_width admits kids (left ∷ []) pr.l pr.lawful.0) (ap under (sym pr.is)) in
    let law = subst (Lawful (left ∷ [])) both.0 pr.lawful.0 in
    let lc = left_cell (cell 33 0 (width p) f) law.0 in
    let tr = subst Term both.1 pr.lawful.1 in
    let sz = pr.layout.cells in
    let arrow-free : (x : ℕ) → Free x r → Free x (arrow (fun f p) r) = λ x i. plain_out (cell 36 0 2 0) (fun f p & r) (λ z. omega arith) refl x (free_right x (fun f p) r i) in
    record {
      plainly = flat p (children (cell 33 0 (width p) f)) law.1;
      term_right = tr;
      low_right = low_free 1024 65535 0 0 (term ∷ []) r tr (λ x i. pr.layout.low x (arrow-free x i)) (omega (arith, sz));
      small = omega (arith, sz);
      every = λ x n.
          let c = subst (λ u. count x (fvs u) ≡ cond (ltb x (length (fvs u))) 1 0) both.0 (pr.once x) in
          let k : 1 ≤ count x (fvs (fun f p)) = grind (arith, nat_tests, c, n) in
          ⊎_elim
          (λ o. absurd (let q = (own_is x 0 (cell 33 0 (width p) f) o).0 in omega (arith, q, lc.1)))
          (λ u. ⊎_elim (λ o. subst (λ z. In x (frees 0 z p)) lc.0 o) (λ o. absurd o) u)
          (in_row x 0 0 (cell 33 0 (width p) f) p none (count_in x (fvs (fun f p)) k));
      only = λ x i. subst (λ u. x < length (fvs u)) both.0 (pr.below x (subst (Free x) (sym both.1) i));
    }

-- bindings, and a variable past them
abbrev filled : Row → ℕ → Row
filled θ n = cond (ltb n (width θ)) (binding θ n) (var 0)

module _ (θ : Row) (h : Terms θ) (b : (n : ℕ) → n < width θ → Below 65535 (binding θ n)) where
  filled_term : (n : ℕ) → Term (filled θ n)
  filled_term n = go (ltb n (width θ)) refl
    where
      go : (q : Bool) → ltb n (width θ) ≡ q → Term (cond q (binding θ n) (var 0))
      go true e = let z : n < width θ = grind (arith, nat_tests) in pick_term (width θ) θ n h z
      go false e = var_term 0 (omega arith)

  filled_low : (n : ℕ) → n ≤ 65535 → Low 65535 (filled θ n)
  filled_low n y = go (ltb n (width θ)) refl
    where
      go : (q : Bool) → ltb n (width θ) ≡ q → Low 65535 (cond q (binding θ n) (var 0))
      go true e = let z : n < width θ = grind (arith, nat_tests) in lows 65535 (term ∷ []) (binding θ n) (pick_term (width θ) θ n h z) (b n z)
      go false e = (λ k. omega arith, tt, tt)

  filled_wide : (n : ℕ) → width (filled θ n) ≡ 1
  filled_wide n = one_wide (filled θ n) (filled_term n)

  abbrev IsTerm : Sort → Type 0
  IsTerm s = s ≡ term

  terms : (n : ℕ) → Every IsTerm (replicate n term)
  terms zero = tt
  terms (suc n) = (refl, terms n)

  kept : (g : Sort) (c : ℕ) → IsTerm g → Every IsTerm (kids g c)
  unfolding kids
  kept g c e = subst (λ s. Every IsTerm (kids s c)) (sym e) (terms (children c))

  stands : (g : Sort) (c n e : ℕ) → IsTerm g → n ≤ 65535 → kind c ≡ 0 → admits g c ≡ true → 65535 + e < 2 ^ 32 → Lawful (g ∷ []) (raise e (filled θ n))
  stands g c n e i z k l w =
      subst (λ s. Lawful (s ∷ []) (raise e (filled θ n))) (sym i)
      (rename_lawful (λ j. j + e) e 65535 (λ j. omega arith) w admits kids variables 0 0 (term ∷ []) (filled θ n) (filled_low n z) (filled_term n))

  given : (r : Row) → Term r → Low 65535 r → size r ≤ 2048 → Term (substitute (filled θ) 0 0 r)
  given r l lo s = substitute_lawful (filled θ) 65535 filled_wide admits kids IsTerm kept stands 0 0 (term ∷ []) r (refl, tt) lo (omega (arith, s)) l

  given_free : (x : ℕ) (r : Row) → Low 65535 r → size r ≤ 2048 → Free x (substitute (filled θ) 0 0 r) → (n : ℕ) × In n (fvs r) × Free x (filled θ n)
  given_free x r lo s f = substitute_frees (filled θ) 65535 filled_wide x 0 0 r filled_low lo (omega (arith, s)) f

filled_is : (θ : Row) (n : ℕ) → n < width θ → binding θ n ≡ filled θ n
filled_is θ n z = go (ltb n (width θ)) refl
  where
    go : (q : Bool) → ltb n (width θ) ≡ q → binding θ n ≡ cond q (binding θ n) (var 0)
    go true e = refl
    go false e = absurd (grind (arith, nat_tests, z))

-- the children of a call, marked or not
record Callee (t ts : Row) : Type 0 where
  low : Below 65535 ts
  outer : (x : ℕ) → Free x ts → Free x t

call_of : (k f : ℕ) (t ts : Row) → 1 ≤ k → f < 1024 → (Term t × Below 65535 t) → t ≡ node (cell k 0 (width ts) f) ts none → Callee t ts
call_of k f t ts p z h e =
    let l = subst Term e h.0 in
    let w = (term_kids (cell k 0 (width ts) f) ts l.1).0 in
    record {
      low = (subst (Below 65535) e h.1).1;
      outer = λ x i. subst (Free x) (sym e) (plain_out (cell k 0 (width ts) f) ts (λ y. omega (arith, y, w, z, p)) (omega (arith, w, z)) x i);
    }

callee : (program : Row) (argument : ℕ) (t : Row) (l : Called program argument t) → (Term t × Below 65535 t) → Callee t l.ts
callee program argument t l h = ⊎_elim (λ e. call_of 33 l.f t l.ts (omega arith) l.letters.0 h e) (λ e. call_of 34 l.f t l.ts (omega arith) l.letters.0 h e) l.is

module _ (program : Row) (argument : ℕ) (t : Row) (rules : ProgramRules program) (h : Term t × Below 65535 t) (l : Called program argument t) where
  rw_of : Rewrites l.f l.p l.r
  rw_of = rewrites program argument l.f l.p l.r rules l.numbered

  part : (n : ℕ) → n < width l.θ → Below 65535 (binding l.θ n) × ((y : ℕ) → Free y (binding l.θ n) → Free y l.ts)
  part n z = bound_part 65535 n l.θ l.p l.ts rw_of.plainly l.matched (callee program argument t l h).low (rw_of.every n (subst (λ k. n < k) l.bound z))

  inside : (n : ℕ) → Free n l.r → n < width l.θ
  inside n i = subst (λ k. n < k) (sym l.bound) (rw_of.only n i)

  same : substitute (binding l.θ) 0 0 l.r ≡ substitute (filled l.θ) 0 0 l.r
  same = substitute_same (binding l.θ) (filled l.θ) 0 0 l.r (λ n i. filled_is l.θ n (inside n i))

pub first_1 : FirstWithin 1
first_1 program argument t u rules h g =
    let l = g.0 in
    let r = rw_of program argument t rules (h.lawful, h.low) l in
    subst Term (sym (g.3 ∙ same program argument t rules (h.lawful, h.low) l))
    (given l.θ l.letters.2 (λ n z. (part program argument t rules (h.lawful, h.low) l n z).0) l.r r.term_right r.low_right r.small)

pub second_1 : SecondWithin 1
second_1 program argument t u rules h g x f =
    let l = g.0 in
    let r = rw_of program argument t rules (h.lawful, h.low) l in
    let o = given_free l.θ l.letters.2 (λ n z. (part program argument t rules (h.lawful, h.low) l n z).0) x l.r r.low_right r.small (subst (Free x) (g.3 ∙ same program argument t rules (h.lawful, h.low) l) f) in
    let z = inside program argument t rules (h.lawful, h.low) l o.0 o.1 in
    (callee program argument t l (h.lawful, h.low)).outer x ((part program argument t rules (h.lawful, h.low) l o.0 z).1 x (subst (Free x) (sym (filled_is l.θ o.0 z)) o.2))

-- 3 Bind: the body is no longer than the redex, nor than what is given
body_short : (program : Row) (argument : ℕ) (t u : Row) → Within t u → (g : Gives (line 3 program argument t) u) → size g.0.e ≤ 2 ^ 31
body_short program argument t u h g =
    let l = g.0 in
    let low = below-& 65535 l.a l.e (subst (Below 65535) l.is h.low).1 in
    ⊎_elim (body_size program argument t u g)
    (λ z. let k = substitute_size (instead l.a) (instead_wide l.a l.letters.0 low.0) 0 0 l.e (formed l.e l.letters.1).1 in let e = ap size g.3 in omega (arith, k, e, z))
    h.within

first_3 : FirstWithin 3
first_3 program argument t u rules h g = bind_first program argument t u h.low g (body_short program argument t u h g)

second_3 : SecondWithin 3
second_3 program argument t u rules h g = bind_second program argument t u h.low g (body_short program argument t u h g)

-- the whole figure
abbrev FirstRule : Rule → Type 0
FirstRule r = (program : Row) (argument : ℕ) (t u : Row) → ProgramRules program → Within t u → Gives (r program argument t) u → Term u

abbrev SecondRule : Rule → Type 0
SecondRule r = (program : Row) (argument : ℕ) (t u : Row) → ProgramRules program → Within t u → Gives (r program argument t) u → (x : ℕ) → Free x u → Free x t

-- of every rule of a list
abbrev All : (Rule → Type 0) → List Rule → Type 0
All P [] = Unit {0}
All P (r ∷ rs) = P r × All P rs

numbered : (P : Rule → Type 0) (rs : List Rule) (d : Rule) → All P rs → P d → (i : ℕ) → P (get_or rs i d)
numbered P [] d h k i = k
numbered P (r ∷ rs) d h k zero = h.0
numbered P (r ∷ rs) d h k (suc i) = numbered P rs d h.1 k i

firsts : All FirstRule figure
firsts = (first_1, (first_2, (first_3, (first_4, (flat_first, tt)))))

seconds : All SecondRule figure
seconds = (second_1, (second_2, (second_3, (second_4, (flat_second, tt)))))

within_first : (n : ℕ) → FirstWithin n
within_first n = numbered FirstRule figure _ firsts (λ program argument t u rules h g. absurd g.0) (n - 1)

within_second : (n : ℕ) → SecondWithin n
within_second n = numbered SecondRule figure _ seconds (λ program argument t u rules h g x f. absurd g.0) (n - 1)

pub first_of : (n : ℕ) → FirstOf n
first_of n = first_held n (within_first n)

pub second_of : (n : ℕ) → SecondOf n
second_of n = second_held n (within_second n)

pub keeps_laws : KeepsLaws
keeps_laws = suffices (λ n h. (first_short n (within_first n), second_short n (within_second n)))

-- a part of a term is held as it is
pick_size : (t : Row) (i : ℕ) (p : List ℕ) → size (pick t i p) ≤ size t
pick_size none i p = omega arith
pick_size (node c ks r) zero [] = omega arith
pick_size (node c ks r) zero (j ∷ p) = omega (arith, pick_size ks j p)
pick_size (node c ks r) (suc i) p = omega (arith, pick_size r i p)

pick_below : (m : ℕ) (t : Row) (i : ℕ) (p : List ℕ) → Below m t → Below m (pick t i p)
pick_below m none i p b = tt
pick_below m (node c ks r) zero [] b = (b.0, b.1, tt)
pick_below m (node c ks r) zero (j ∷ p) b = pick_below m ks j p b.1
pick_below m (node c ks r) (suc i) p b = pick_below m r i p b.2

-- a redex at a site is a term, and a term put there leaves the whole lawful
site_pick : (n : ℕ) (t : Row) (i : ℕ) (p : List ℕ) → Lawful (replicate n term) t → At admits kids (λ s c. Unit {0}) (replicate n term) t i p → Term (pick t i p)
unfolding kids
site_pick zero t i p h g = absurd g
site_pick (suc n) none i p h g = absurd g
site_pick (suc n) (node c ks r) zero [] h g = (h.0, h.1, tt)
site_pick (suc n) (node c ks r) zero (j ∷ p) h g = site_pick (children c) ks j p h.1 g
site_pick (suc n) (node c ks r) (suc i) p h g = site_pick n r i p h.2 g

site_put : (n : ℕ) (t : Row) (i : ℕ) (p : List ℕ) (u : Row) → Lawful (replicate n term) t → At admits kids (λ s c. Unit {0}) (replicate n term) t i p → Term u → Lawful (replicate n term) (put t i p u)
unfolding kids
site_put zero t i p u h g k = absurd g
site_put (suc n) none i p u h g k = absurd g
site_put (suc n) (node c ks r) zero [] u h g k = beside term (replicate n term) u r k h.2
site_put (suc n) (node c ks r) zero (j ∷ p) u h g k = (h.0, site_put (children c) ks j p u h.1 g k, h.2)
site_put (suc n) (node c ks r) (suc i) p u h g k = (h.0, h.1, site_put n r i p u h.2 g k)

pub sites : (whole : Row) (p : List ℕ) → Term whole → Site whole p → Term (pick whole 0 p) × ((u : Row) → Term u → Term (put whole 0 p u))
sites whole p h g = (site_pick 1 whole 0 p h g, λ u k. site_put 1 whole 0 p u h g k)

pub first_law : FirstLaw
first_law program whole place n argument inner u rules h s g =
    let w = sites whole place h.lawful s in
    let held : Held (pick whole 0 place) = record { lawful = w.0; low = pick_below 65535 whole 0 place h.low; short = omega (arith, pick_size whole 0 place, h.short) } in
    w.1 u (first_of n program argument (pick whole 0 place) u rules held g.2)

pub second_law : SecondLaw
second_law program n argument _ t u rules h g = second_of n program argument t u rules h g.2
