-- A program rule and a redex: the rule's parts, where they stand, and when the redex is a call of it. Assumes nothing.
use Rattle.std.proofs.Common.{◌≡◌, ℕ, ◌+◌, ◌-◌, ◌<◌, ◌≤◌, Bool, true, false, cond, ◌⊎◌, List, [], ◌∷◌, ◌++◌, length, get_or, take, drop, sym, refl, ap, ◌∙◌, subst, inl, inr, ⊎_elim, append-nil, length-append, arith}
use Rattle.std.proofs.lemmas.Bool.Decides.{nat_tests}
use Rattle.terms.specs.Cells.{kind, binder, children, zeros, payload, cell, loose}
use Rattle.terms.specs.Rows.{Row, flat, size, width, frees, fvs, above, own, Free, Layout, Counted, substitute, pick}
use Rattle.terms.specs.Rows.Row.{none, node}
use Rattle.terms.specs.Standing.{Stands}
use Rattle.terms.proofs.Inject.{top, under, inj-&}
use Rattle.terms.proofs.Bridge.{formed_counted}
use Rattle.terms.proofs.Steps.{moved}
use Rattle.calculus.specs.Line.{Gives}
use Rattle.std.specs.Borrow.{Bor}
use Rattle.moves.proofs.Overs.{part_is}
use Rattle.rewriting.proofs.Standings.{tree_here}
use Rattle.lets.specs.Syntax.{admits, Lawful, Terms, fun, marked, arrow, light, ProgramRule}
use Rattle.lets.specs.Syntax.Sort.{term, left, pattern}
use Rattle.lets.specs.Checks.{EachOnce}
use Rattle.lets.specs.Figure.{Called, Match, binding, fapp}
use Rattle.lets.proofs.Arrows.{few_variables}
use Rattle.lets.proofs.Judges.{left_kids, term_kids}
use Rattle.terms.proofs.Endings.{stands_cells}
use Rattle.lets.proofs.Laws.{one_wide}
use Rattle.rewriting.specs.Matchings.{Facing, Bound}
use Rattle.rewriting.proofs.CellWhole.{symbol_cell, symbol_fields}
use Rattle.rewriting.proofs.Standings.{TermAt, stands_left, stands_right, cell_here, kids_here, top_here}
use Rattle.rewriting.proofs.SideBySide.{Each, each_of}
use Rattle.rewriting.proofs.Halfway.{stands_dropped, match_wide}

-- the cell of a left side
left_fields : (c : ℕ) → admits left c ≡ true → (kind c ≡ 33) × (binder c ≡ 0) × (zeros c ≡ 0) × (children c ≤ 255) × (payload c < 1024)
unfolding admits
left_fields c a = (grind (arith, nat_tests), grind (arith, nat_tests), grind (arith, nat_tests), grind (arith, nat_tests), grind (arith, nat_tests))

-- a left side is a function over patterns
record Left (l : Row) : Type 0 where
  pub f : ℕ
  pub p : Row
  pub is : l ≡ fun f p
  pub low : f < 1024
  pub narrow : width p ≤ 255
  pub patterns : Each pattern p

left_of : (l : Row) → Lawful (left ∷ []) l → Counted l → Left l
left_of none h g = absurd h
left_of (node c p (node d js r)) h g = absurd h.2
left_of (node c p none) h g =
    let q = left_fields c h.0 in
    let w : children c ≡ width p = g.1 in
    let e : c ≡ cell 33 0 (width p) (payload c) = symbol_cell c q.1 q.2 ∙ rw (q.0, w) refl in
    record {
      f = payload c;
      p = p;
      is = ap (λ x. node x p none) e;
      low = q.4;
      narrow = omega (arith, q.3, w);
      patterns = each_of pattern (children c) p (subst (λ ss. Lawful ss p) (left_kids c) h.1);
    }

-- its free variables are those of the patterns
fun_free : (f : ℕ) (p : Row) → f < 1024 → width p ≤ 255 → fvs (fun f p) ≡ fvs p
fun_free f p l w =
    let q = symbol_fields 33 (width p) f w l in
    let k : loose 0 (cell 33 0 (width p) f) ≡ false = grind (arith, nat_tests, q.0) in
    let b : binder (cell 33 0 (width p) f) ≡ 0 = omega arith in
    ap (λ t. cond t ((payload (cell 33 0 (width p) f) - 0) ∷ []) [] ++ (frees 0 (binder (cell 33 0 (width p) f)) p ++ [])) k ∙ ap (λ n. frees 0 n p ++ []) b ∙ append-nil (fvs p)

-- a row has no more free variables than cells
frees_size : (d b : ℕ) (t : Row) → length (frees d b t) ≤ size t
frees_size d b none = omega arith
frees_size d b (node c ks r) =
    let p = above d b r in
    let h = frees_size p (binder c) ks in
    let i = frees_size d b r in
    let j = length-append (own p c) (frees p (binder c) ks ++ frees d b r) in
    let k = length-append (frees p (binder c) ks) (frees d b r) in
    let o = one (loose p c) in
    omega arith
  where
    one : (h : Bool) → length (cond h ((payload c - above d b r) ∷ []) []) ≤ 1
    one true = omega arith
    one false = omega arith

-- The parts of a program rule with these cells, the right side from a cell on.
pub record Parted (t : Row) (rule : List ℕ) (right : ℕ) : Type 0 where
  pub f : ℕ
  pub p : Row
  pub r : Row
  pub is : t ≡ arrow (fun f p) r
  pub low : f < 1024
  pub narrow : width p ≤ 255
  pub patterns : Each pattern p
  pub head : get_or rule 1 0 ≡ cell 33 0 (width p) f
  pub right_is : right ≡ 2 + size p
  pub right_at : TermAt r rule right
  pub reads : take (right - 2) (drop 2 rule) ≡ flat p
  pub within : right < length rule
  pub free : fvs (fun f p) ≡ fvs p
  pub once : EachOnce (fvs p)
  pub few : length (fvs p) ≤ 1024
  pub below : (x : ℕ) → Free x r → x < length (fvs p)

-- as many bindings as the patterns have cells are enough, and so are 1,024
pub enough : {t : Row} {rule : List ℕ} {right : ℕ} (q : Parted t rule right) (most : ℕ) → (right ≤ 2 + most) ⊎ (most ≡ 1024) → length (fvs q.p) ≤ most
enough q most (inl h) = omega (arith, h, q.right_is, frees_size 0 0 q.p)
enough q most (inr h) = omega (arith, h, q.few)

module _ {t : Row} {rule : List ℕ} (g : ProgramRule t) (e : flat t ≡ rule) where
  whole : Stands (arrow g.l g.r) 1 rule 0
  whole =
      subst (λ u. Stands u 1 rule 0) g.is (record { counted = formed_counted t g.layout.formed; wide = g.layout.single; rest = []; reads = append-nil (flat t) ∙ e })

  left_whole : Left g.l
  left_whole = left_of g.l g.lawful.0 (stands_left g.l g.r (kids_here _ _ whole)).counted

  left_wide : width g.l ≡ 1
  left_wide = ap width left_whole.is

  -- the left side stands after the first cell
  pub left_at : Stands g.l 1 rule 1
  left_at = moved (stands_left g.l g.r (kids_here _ _ whole)) (sym left_wide) refl

  pub parted : (right : ℕ) → right ≡ 1 + size g.l → Parted t rule right
  parted right z =
      let q = left_whole in
      let s : Stands (fun q.f q.p) 1 rule 1 = subst (λ u. Stands u 1 rule 1) q.is left_at in
      let n = ap size q.is in
      let right_is : right ≡ 2 + size q.p = omega arith in
      let r-at = moved (stands_right g.l g.r (kids_here _ _ whole)) (sym (one_wide g.r g.lawful.1)) z in
      let same = fun_free q.f q.p q.low q.narrow in
      let vars : fvs g.l ≡ fvs q.p = ap fvs q.is ∙ same in
      record {
        f = q.f;
        p = q.p;
        r = g.r;
        is = g.is ∙ ap (λ l. arrow l g.r) q.is;
        low = q.low;
        narrow = q.narrow;
        patterns = q.patterns;
        head = sym (cell_here _ _ s);
        right_is = right_is;
        right_at = record { lawful = g.lawful.1; stands = r-at };
        reads = stands_cells (kids_here _ _ s) (right - 2) (omega arith);
        within = tree_here r-at;
        free = same;
        once = subst EachOnce vars g.once;
        few = subst (λ l. length l ≤ 1024) vars (few_variables g.l g.r g.once (subst Layout g.is g.layout));
        below = λ x h. subst (λ l. x < length l) vars (g.below x h);
      }

-- a rule has two cells and more
pub rule_long : {t : Row} {rule : List ℕ} (g : ProgramRule t) → flat t ≡ rule → 2 ≤ length rule
rule_long g e = let p = parted g e (1 + size g.l) refl in omega arith

-- the cell of a symbol in a lawful term
term_fields : (c : ℕ) → admits term c ≡ true → (kind c ≡ 33) ⊎ (kind c ≡ 34) → (binder c ≡ 0) × (zeros c ≡ 0) × (payload c < 1024)
unfolding admits
term_fields c a k = (grind (arith, nat_tests), grind (arith, nat_tests), grind (arith, nat_tests))

-- a redex that is a call of f with as many terms as a rule has patterns
pub record Applied (t : Row) (redex : List ℕ) (f : ℕ) (p : Row) : Type 0 where
  pub ts : Row
  pub is : (t ≡ fun f ts) ⊎ (t ≡ marked f ts)
  pub terms : Terms ts
  pub stands : Stands ts (width p) redex 1

applied_of : (t : Row) {redex : List ℕ} (f : ℕ) (p : Row) → TermAt t redex 0 → (kind (top t) ≡ 33) ⊎ (kind (top t) ≡ 34) → payload (top t) ≡ f → children (top t) ≡ width p → Applied t redex f p
applied_of none f p s k x y = absurd s.lawful
applied_of (node c ts (node d js r)) f p s k x y = absurd s.lawful.2
applied_of (node c ts none) {redex} f p s k x y =
    let h = s.lawful in
    let q = term_fields c h.0 k in
    let w : children c ≡ width ts = s.stands.counted.1 in
    let e : c ≡ cell (kind c) 0 (width ts) f = symbol_cell c q.0 q.1 ∙ rw (w, x) refl in
    record {
      ts = ts;
      is = ⊎_elim (λ z. inl (ap (λ n. node n ts none) (e ∙ ap (λ n. cell n 0 (width ts) f) z))) (λ z. inr (ap (λ n. node n ts none) (e ∙ ap (λ n. cell n 0 (width ts) f) z))) k;
      terms = each_of term (children c) ts (subst (λ ss. Lawful ss ts) (term_kids c) h.1);
      stands = moved (kids_here c ts s.stands) (sym y ∙ w) refl;
    }

module _ {t ρ : Row} {redex rule : List ℕ} {right : ℕ} (s : TermAt t redex 0) (q : Parted ρ rule right) where
  -- the first cell is one that calls the head
  abbrev pub Calls : Type 0
  Calls = ((kind (get_or redex 0 0) ≡ 33) ⊎ (kind (get_or redex 0 0) ≡ 34)) × (payload (get_or redex 0 0) ≡ payload (get_or rule 1 0)) × (children (get_or redex 0 0) ≡ children (get_or rule 1 0))

  pub applied : Calls → Applied t redex q.f q.p
  applied h =
      let e = top_here t s in
      let v = symbol_fields 33 (width q.p) q.f q.narrow q.low in
      applied_of t q.f q.p s (subst (λ n. (kind n ≡ 33) ⊎ (kind n ≡ 34)) (sym e) h.0) (ap payload e ∙ h.1 ∙ ap payload q.head ∙ v.2) (ap children e ∙ h.2 ∙ ap children q.head ∙ v.1)

  pub facing : (a : Applied t redex q.f q.p) (patterns terms : List ℕ) (most : ℕ) → patterns ≡ take (right - 2) (drop 2 rule) → terms ≡ take (length redex - 1) (drop 1 redex) → length (fvs q.p) ≤ most → Facing q.p a.ts patterns terms most
  facing a patterns terms most e f m =
      record {
        lawful = q.patterns;
        reads = sym q.reads ∙ sym e;
        once = q.once;
        few = m;
        letters = a.terms;
        stands = subst (λ l. Stands a.ts (width q.p) l 0) (sym (f ∙ part_is redex 1)) (stands_dropped a.stands);
      }

  -- of the program rule that the argument numbers
  module _ (program : Row) (argument : ℕ) (n : pick program argument [] ≡ ρ) where
    same_parts : (l : Called program argument t) → (l.f ≡ q.f) × (l.p ≡ q.p) × (l.r ≡ q.r)
    same_parts l =
        let e = sym l.numbered ∙ n ∙ q.is in
        let k = inj-& (fun l.f l.p) l.r (fun q.f q.p) q.r refl (ap under e) in
        let p : l.p ≡ q.p = ap under k.0 in
        let c : cell 33 0 (width l.p) l.f ≡ cell 33 0 (width q.p) q.f = ap top k.0 in
        (omega (arith, c, ap width p), p, k.1)

    pub calls_head : Called program argument t → Calls
    calls_head l =
        let m = same_parts l in
        let w : width l.ts ≡ width q.p = sym (match_wide l.θ l.p l.ts l.matched) ∙ ap width m.1 in
        let v = symbol_fields 33 (width q.p) q.f q.narrow q.low in
        ⊎_elim (λ e. go 33 (inl refl) w m.0 v (sym (top_here t s) ∙ ap top e)) (λ e. go 34 (inr refl) w m.0 v (sym (top_here t s) ∙ ap top e)) l.is
      where
        go : (k : ℕ) → (k ≡ 33) ⊎ (k ≡ 34) → width l.ts ≡ width q.p → l.f ≡ q.f → (kind (cell 33 0 (width q.p) q.f) ≡ 33) × (children (cell 33 0 (width q.p) q.f) ≡ width q.p) × (payload (cell 33 0 (width q.p) q.f) ≡ q.f) → get_or redex 0 0 ≡ cell k 0 (width l.ts) l.f → Calls
        go k is w f v e =
            let c : get_or redex 0 0 ≡ cell k 0 (width q.p) q.f = e ∙ rw (w, f) refl in
            let u = symbol_fields k (width q.p) q.f q.narrow q.low in
            (subst (λ x. (x ≡ 33) ⊎ (x ≡ 34)) (sym (ap kind c ∙ u.0)) is, ap payload c ∙ u.2 ∙ sym v.2 ∙ ap payload (sym q.head), ap children c ∙ u.1 ∙ sym v.1 ∙ ap children (sym q.head))

    module _ (a : Applied t redex q.f q.p) where
      same_terms : (l : Called program argument t) → l.ts ≡ a.ts
      same_terms l = sym (⊎_elim (λ e. ap under e) (λ e. ap under e) l.is) ∙ ⊎_elim (λ e. ap under e) (λ e. ap under e) a.is

      pub called_match : (l : Called program argument t) → (width l.θ ≡ length (fvs q.p)) × Match l.θ q.p a.ts
      called_match l =
          let m = same_parts l in
          (l.bound ∙ ap (λ u. length (fvs u)) (ap (λ f. fun f l.p) m.0 ∙ ap (fun q.f) m.1) ∙ ap length q.free, subst (λ x. Match l.θ x a.ts) m.1 (subst (Match l.θ l.p) (same_terms l) l.matched))

      pub called : {k : ℕ} {values : List (Bor (List ℕ))} (θ : Row) → k ≡ length (fvs q.p) → Bound θ k values → Match θ q.p a.ts → Called program argument t
      called θ e b m =
          record {
            f = q.f;
            p = q.p;
            r = q.r;
            ts = a.ts;
            θ = θ;
            numbered = n ∙ q.is;
            letters = (q.low, a.terms, b.terms);
            is = a.is;
            bound = b.wide ∙ e ∙ ap length (sym q.free);
            matched = m;
          }

      pub gives_right : {k : ℕ} {values : List (Bor (List ℕ))} (θ : Row) → k ≡ length (fvs q.p) → Bound θ k values → Match θ q.p a.ts → light θ ≡ true → Gives (fapp program argument t) (substitute (binding θ) 0 0 q.r)
      unfolding called
      gives_right θ e b m l = (called θ e b m, l, tt, refl)
