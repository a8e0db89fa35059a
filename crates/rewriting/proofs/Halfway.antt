-- Patterns and terms walked side by side: what is still to match, and what is bound so far. Assumes nothing.
use Rattle.std.proofs.Common.{◌≡◌, ℕ, suc, ◌+◌, ◌-◌, ◌<◌, ◌≤◌, true, false, cond, eqb, List, [], ◌∷◌, ◌++◌, length, get_or, take, drop, set, Some, sym, refl, ap, ◌∙◌, subst, inl, inr, ⊎_elim, append_assoc, append-nil, arith, length-append, get_or-set_other, get_or-set_same}
use lib.ListN.{length-replicate}
use Rattle.std.proofs.lemmas.Bool.Decides.{nat_tests}
use Rattle.std.proofs.lemmas.List.{drop_more, drop_all}
use Rattle.terms.specs.Cells.{kind, binder, children, payload, loose}
use Rattle.terms.specs.Lists.{In}
use Rattle.terms.specs.Rows.{Row, flat, size, width, ◌&◌, own, frees, fvs}
use Rattle.terms.specs.Rows.Row.{none, node}
use Rattle.terms.specs.Standing.{Stands}
use Rattle.terms.proofs.Inject.{under, next, empty, lawful_width, width-&}
use Rattle.terms.proofs.Steps.{opened, moved}
use Rattle.terms.proofs.Endings.{stands_cells}
use Rattle.terms.proofs.Trees.{flat-&, counted-&}
use Rattle.terms.proofs.Moves.{in-++, in_left, in_right, ground}
use Rattle.rewriting.proofs.Standings.{tree_here}
use Rattle.std.specs.Borrow.{Bor}
use Rattle.moves.specs.Images.{nothing}
use Rattle.lets.specs.Syntax.{admits, kids, Lawful, Term, Terms}
use Rattle.lets.specs.Syntax.Sort.{term, pattern}
use Rattle.lets.specs.Checks.{EachOnce}
use Rattle.lets.specs.Figure.{Match, binding}
use Rattle.lets.proofs.Laws.{one_wide}
use Rattle.lets.proofs.Unique.{pattern_cell, rows_same}
use Rattle.lets.proofs.Judges.{term_kids, pattern_kids}
use Rattle.rewriting.specs.Matchings.{Facing, Matched}
use Rattle.rewriting.proofs.Standings.{stands_left, stands_right}
use Rattle.rewriting.proofs.Counts.{once_below, below_once, once_before}
use Rattle.rewriting.proofs.SideBySide.{Each, each_of, each-&, fvs-&, side, side_wide, side_pick, side_terms}

-- what stands at a cell stands at the front of the cells from there on
pub stands_dropped : {t : Row} {n at : ℕ} {cells : List ℕ} → Stands t n cells at → Stands t n (drop at cells) 0
stands_dropped s = record { counted = s.counted; wide = s.wide; rest = s.rest; reads = s.reads }

-- patterns match terms one by one
match_apart : (θ a b x y : Row) → width a ≡ width x → Match θ (a & b) (x & y) → Match θ a x × Match θ b y
match_apart θ none b none y w m = (tt, m)
match_apart θ none b (node d js s) y w m = absurd (omega arith)
match_apart θ (node c ks r) b none y w m = absurd (omega arith)
match_apart θ (node c ks r) b (node d js s) y w m = let q = match_apart θ r b s y (omega arith) m.1 in ((m.0, q.0), q.1)

match_beside : (θ a b x y : Row) → width a ≡ width x → Match θ a x → Match θ b y → Match θ (a & b) (x & y)
match_beside θ none b none y w m n = n
match_beside θ none b (node d js s) y w m n = absurd (omega arith)
match_beside θ (node c ks r) b none y w m n = absurd (omega arith)
match_beside θ (node c ks r) b (node d js s) y w m n = (m.0, match_beside θ r b s y (omega arith) m.1 n)

pub match_wide : (θ p ts : Row) → Match θ p ts → width p ≡ width ts
match_wide θ none none m = refl
match_wide θ none (node d js s) m = absurd m
match_wide θ (node c ks r) none m = absurd m
match_wide θ (node c ks r) (node d js s) m = ap suc (match_wide θ r s m.1)

-- the free variables of patterns, by the first cell
fvs_variable : (c : ℕ) (r : Row) → kind c ≡ 0 → fvs (node c none r) ≡ payload c ∷ fvs r
fvs_variable c r k =
    let g = ground r in
    let l : loose 0 c ≡ true = grind (arith, nat_tests) in
    let z : payload c - 0 ≡ payload c = omega arith in
    ap (λ n. own n c ++ fvs r) g ∙ ap (λ b. cond b ((payload c - 0) ∷ []) [] ++ fvs r) l ∙ ap (λ x. x ∷ fvs r) z

fvs_symbol : (c : ℕ) (ks r : Row) → (kind c ≡ 0 → ⊥) → binder c ≡ 0 → fvs (node c ks r) ≡ fvs (ks & r)
fvs_symbol c ks r k b =
    let g = ground r in
    let l : loose 0 c ≡ false = grind (arith, nat_tests) in
    ap (λ n. own n c ++ (frees n (binder c) ks ++ fvs r)) g ∙ ap (λ q. cond q ((payload c - 0) ∷ []) [] ++ (frees 0 (binder c) ks ++ fvs r)) l ∙ ap (λ n. frees 0 n ks ++ fvs r) b ∙ sym (fvs-& ks r)

-- a binding is the term with these cells
abbrev pub Held : Row → Bor (List ℕ) → Type 0
Held t value = Term t × (flat t ≡ value.now)

-- The patterns P from the cell number i on are still to match the terms S at the front of the cells that are left. Passed
-- are the variables xs, and the values hold their bindings.
pub record Half (p ts : Row) (patterns left : List ℕ) (values : List (Bor (List ℕ))) (i n : ℕ) (P S : Row) (xs : List ℕ) : Type 0 where
  pub lawful : Each pattern P
  pub reads : flat P ≡ drop i patterns
  pub terms : Terms S
  pub stands : Stands S (width P) left 0
  pub passed : fvs p ≡ xs ++ fvs P
  pub counted : n ≡ length xs
  pub trees : ℕ → Row
  pub held : (x : ℕ) → In x xs → Held (trees x) (get_or values x nothing)
  pub forth : (θ : Row) → Match θ p ts → Match θ P S × ((x : ℕ) → In x xs → binding θ x ≡ trees x)
  pub back : (θ : Row) → Match θ P S → ((x : ℕ) → In x xs → binding θ x ≡ trees x) → Match θ p ts

-- some such
pub record Going (p ts : Row) (patterns left : List ℕ) (values : List (Bor (List ℕ))) (i n : ℕ) : Type 0 where
  pub P : Row
  pub S : Row
  pub xs : List ℕ
  pub half : Half p ts patterns left values i n P S xs

pub going_start : {p ts : Row} {patterns terms : List ℕ} {most : ℕ} (values : List (Bor (List ℕ))) → Facing p ts patterns terms most → Going p ts patterns terms values 0 0
going_start {p} {ts} values f =
    record {
      P = p;
      S = ts;
      xs = [];
      half =
          record {
            lawful = f.lawful;
            reads = f.reads;
            terms = f.letters;
            stands = f.stands;
            passed = refl;
            counted = refl;
            trees = λ x. none;
            held = λ x h. absurd h;
            forth = λ θ m. (m, λ x h. absurd h);
            back = λ θ m h. m;
          };
    }

pub going_as : {p ts : Row} {patterns left left' : List ℕ} {values values' : List (Bor (List ℕ))} {i i' n n' : ℕ} → Going p ts patterns left values i n → left' ≡ left → values' ≡ values → i' ≡ i → n' ≡ n → Going p ts patterns left' values' i' n'
going_as g a b c d = rw (a, b, c, d) g

-- the first of the patterns and the first of the terms
pub record Front (p ts : Row) (patterns left : List ℕ) (values : List (Bor (List ℕ))) (i n : ℕ) : Type 0 where
  pub ks : Row
  pub r : Row
  pub js : Row
  pub s : Row
  pub xs : List ℕ
  pub half : Half p ts patterns left values i n (node (get_or patterns i 0) ks r) (node (get_or left 0 0) js s) xs

module _ {p ts : Row} {patterns left : List ℕ} {values : List (Bor (List ℕ))} {i n : ℕ} where
  front : (P S : Row) (xs : List ℕ) → Half p ts patterns left values i n P S xs → i < length patterns → Front p ts patterns left values i n
  front none S xs h l =
      let m = h.reads ∙ drop_more patterns i 0 l in
      let z : ◌≡◌ {A = ℕ} 0 1 = cc m in
      absurd (omega arith)
  front (node c ks r) S xs h l =
      let o = opened S h.stands (λ e. omega arith) in
      let m = h.reads ∙ drop_more patterns i 0 l in
      let hd : c ≡ get_or patterns i 0 = cc m in
      record {
        ks = ks;
        r = r;
        js = o.ks;
        s = o.r;
        xs = xs;
        half = subst (λ t. Half p ts patterns left values i n (node (get_or patterns i 0) ks r) t xs) o.is (subst (λ x. Half p ts patterns left values i n (node x ks r) S xs) hd h);
      }

  pub going_front : Going p ts patterns left values i n → i < length patterns → Front p ts patterns left values i n
  going_front g l = front g.P g.S g.xs g.half l

  -- at a first pattern c and a first term with the cell d
  module _ {c d : ℕ} {ks r js s : Row} {xs : List ℕ} (h : Half p ts patterns left values i n (node c ks r) (node d js s) xs) (l : i < length patterns) where
    rest_reads : flat ks ++ flat r ≡ drop (i + 1) patterns
    rest_reads = let m = h.reads ∙ drop_more patterns i 0 l in cc m

    kids_wide : width ks ≡ children c
    kids_wide =
        lawful_width admits kids (kids pattern c) ks h.lawful.1 ∙ ap length (pattern_kids c) ∙ length-replicate (children c) pattern

    first_here : Stands (node d js none) 1 left 0
    first_here = stands_left (node d js none) s h.stands

    pub first_below : 0 < length left
    first_below = tree_here first_here

    -- a variable is bound to the whole term
    module _ (k : kind c ≡ 0) where
      leaf : ks ≡ none
      leaf = empty ks (kids_wide ∙ (pattern_cell c h.lawful.0).1 k)

      variable_free : fvs p ≡ xs ++ payload c ∷ fvs r
      variable_free = h.passed ∙ ap (λ t. xs ++ fvs (node c t r)) leaf ∙ ap (λ m. xs ++ m) (fvs_variable c r k)

      here_in : In (payload c) (fvs p)
      here_in = subst (In (payload c)) (sym variable_free) (in_right (payload c) xs (payload c ∷ fvs r) (inl refl))

      pub variable_below : EachOnce (fvs p) → payload c < length (fvs p)
      variable_below o = once_below (payload c) (fvs p) o here_in

      pub variable_term : Stands (node d js none) 1 left 0
      variable_term = first_here

      bound_there : (θ : Row) → Match θ (node c ks r) (node d js s) → binding θ (payload c) ≡ node d js none
      bound_there θ m = subst (λ x. cond (eqb x 0) (binding θ (payload c) ≡ node d js none) ((c ≡ d) × Match θ ks js)) k m.0

      bound_so : (θ : Row) → binding θ (payload c) ≡ node d js none → Match θ r s → Match θ (node c ks r) (node d js s)
      bound_so θ e m = (subst (λ x. cond (eqb x 0) (binding θ (payload c) ≡ node d js none) ((c ≡ d) × Match θ ks js)) (sym k) e, m)

      new_trees : ℕ → Row
      new_trees y = cond (eqb y (payload c)) (node d js none) (h.trees y)

      new_here : new_trees (payload c) ≡ node d js none
      unfolding new_trees
      new_here = let q : eqb (payload c) (payload c) ≡ true = grind (arith, nat_tests) in ap (λ b. cond b (node d js none) (h.trees (payload c))) q

      new_other : (y : ℕ) → (y ≡ payload c → ⊥) → new_trees y ≡ h.trees y
      unfolding new_trees
      new_other y o = let q : eqb y (payload c) ≡ false = grind (arith, nat_tests) in ap (λ b. cond b (node d js none) (h.trees y)) q

      module _ (o : EachOnce (fvs p)) where
        apart : (y : ℕ) → In y xs → y ≡ payload c → ⊥
        apart y m e = once_before (payload c) xs (fvs r) (subst EachOnce variable_free o) (subst (λ z. In z xs) e m)

        -- what holds of each that is bound now
        more : (Q : ℕ → Type 0) → ((y : ℕ) → In y xs → Q y) → Q (payload c) → (y : ℕ) → In y (xs ++ payload c ∷ []) → Q y
        more Q f q y m = ⊎_elim (f y) (λ z. last z) (in-++ y xs (payload c ∷ []) m)
          where
            last : In y (payload c ∷ []) → Q y
            last (inl e) = subst Q (sym e) q
            last (inr z) = absurd z

        pub variable_passed : (end : ℕ) (value : Bor (List ℕ)) → length (fvs p) ≤ length values → end ≡ size (node d js none) → value.now ≡ take end left → Going p ts patterns (drop end left) (set values (payload c) value) (i + 1) (n + 1)
        variable_passed end value few e is =
            record {
              P = r;
              S = s;
              xs = xs ++ payload c ∷ [];
              half =
                  record {
                    lawful = h.lawful.2;
                    reads = ap (λ t. flat t ++ flat r) (sym leaf) ∙ rest_reads;
                    terms = h.terms.2;
                    stands = stands_dropped (moved (stands_right (node d js none) s h.stands) (omega (arith, h.stands.wide)) (omega (arith, e)));
                    passed = variable_free ∙ sym (append_assoc xs (payload c ∷ []) (fvs r));
                    counted = omega (arith, h.counted, length-append xs (payload c ∷ []));
                    trees = new_trees;
                    held = more (λ y. Held (new_trees y) (get_or (set values (payload c) value) y nothing)) old_held new_held;
                    forth = λ θ m.
                        let q = h.forth θ m in
                        (q.0.1, more (λ y. binding θ y ≡ new_trees y) (λ y z. q.1 y z ∙ sym (new_other y (apart y z))) (bound_there θ q.0 ∙ sym new_here));
                    back = λ θ m f.
                        h.back θ (bound_so θ (f (payload c) (in_right (payload c) xs (payload c ∷ []) (inl refl)) ∙ new_here) m) (λ y z. f y (in_left y xs (payload c ∷ []) z) ∙ new_other y (apart y z));
                  };
            }
          where
            old_held : (y : ℕ) → In y xs → Held (new_trees y) (get_or (set values (payload c) value) y nothing)
            old_held y z =
                let t = new_other y (apart y z) in
                let g : get_or (set values (payload c) value) y nothing ≡ get_or values y nothing = get_or-set_other values (payload c) y value nothing (apart y z) in
                subst (λ u. Held u (get_or (set values (payload c) value) y nothing)) (sym t) (subst (Held (h.trees y)) (sym g) (h.held y z))

            new_held : Held (new_trees (payload c)) (get_or (set values (payload c) value) (payload c) nothing)
            new_held =
                let b = variable_below o in
                let g : get_or (set values (payload c) value) (payload c) nothing ≡ value = get_or-set_same values (payload c) value nothing (omega arith) in
                let w : flat (node d js none) ≡ value.now = sym (is ∙ stands_cells first_here end e) in
                subst (λ u. Held u (get_or (set values (payload c) value) (payload c) nothing)) (sym new_here) (subst (Held (node d js none)) (sym g) ((h.terms.0, h.terms.1, tt), w))

    -- a constructor matches its own cell
    module _ (k : kind c ≡ 0 → ⊥) where
      same_cell : (θ : Row) → Match θ (node c ks r) (node d js s) → (c ≡ d) × Match θ ks js
      same_cell θ m =
          let q : eqb (kind c) 0 ≡ false = grind (arith, nat_tests) in
          subst (λ b. cond b (binding θ (payload c) ≡ node d js none) ((c ≡ d) × Match θ ks js)) q m.0

      pub other_cell : (d ≡ c → ⊥) → (θ : Row) → Match θ p ts → ⊥
      other_cell ne θ m = ne (sym (same_cell θ (h.forth θ m).0).0)

      pub symbol_passed : d ≡ c → Going p ts patterns (drop 1 left) values (i + 1) n
      symbol_passed e =
          record {
            P = ks & r;
            S = js & s;
            xs = xs;
            half =
                record {
                  lawful = each-& pattern ks r (each_of pattern (children c) ks (subst (λ ss. Lawful ss ks) (pattern_kids c) h.lawful.1)) h.lawful.2;
                  reads = flat-& ks r ∙ rest_reads;
                  terms = each-& term js s (each_of term (children d) js (subst (λ ss. Lawful ss js) (term_kids d) h.terms.1)) h.terms.2;
                  stands = both_stand;
                  passed = h.passed ∙ ap (λ m. xs ++ m) (fvs_symbol c ks r k (pattern_cell c h.lawful.0).0);
                  counted = h.counted;
                  trees = h.trees;
                  held = h.held;
                  forth = λ θ m.
                      let q = h.forth θ m in
                      (match_beside θ ks r js s wide (same_cell θ q.0).1 q.0.1, q.1);
                  back = λ θ m f.
                      let q = match_apart θ ks r js s wide m in
                      h.back θ (so θ q.0, q.1) f;
                };
          }
        where
          wide : width ks ≡ width js
          wide = kids_wide ∙ ap children (sym e) ∙ h.stands.counted.1

          so : (θ : Row) → Match θ ks js → cond (eqb (kind c) 0) (binding θ (payload c) ≡ node d js none) ((c ≡ d) × Match θ ks js)
          so θ m =
              let q : eqb (kind c) 0 ≡ false = grind (arith, nat_tests) in
              subst (λ b. cond b (binding θ (payload c) ≡ node d js none) ((c ≡ d) × Match θ ks js)) (sym q) (sym e, m)

          both_stand : Stands (js & s) (width (ks & r)) (drop 1 left) 0
          both_stand =
              let o = opened (node d js s) h.stands (λ z. omega arith) in
              let x : js ≡ o.ks = ap under o.is in
              let y : s ≡ o.r = ap next o.is in
              let w = h.stands.wide in
              record {
                counted = counted-& js s h.stands.counted.2 h.stands.counted.3;
                wide = omega (arith, width-& js s, width-& ks r, wide);
                rest = o.rest;
                reads = ap (λ m. m ++ o.rest) (flat-& js s) ∙ ap (λ t. (flat t ++ flat s) ++ o.rest) x ∙ ap (λ t. (flat o.ks ++ flat t) ++ o.rest) y ∙ o.tail;
              }

-- nothing is left to match
pub going_end : {p ts : Row} {patterns terms left : List ℕ} {values : List (Bor (List ℕ))} {n most : ℕ} → Facing p ts patterns terms most → Going p ts patterns left values (length patterns) n → Matched p ts values (Some n)
going_end {p} {ts} {patterns} {terms} {left} {values} {n} {most} f g = finish g.P g.S g.half
  where
    finish : (P S : Row) → Half p ts patterns left values (length patterns) n P S g.xs → Matched p ts values (Some n)
    finish (node c ks r) S h =
        let m = h.reads ∙ drop_all (length patterns) patterns (omega arith) in
        let z : ◌≡◌ {A = ℕ} 0 1 = cc m in
        absurd (omega arith)
    finish none (node d js s) h = absurd (omega (arith, h.stands.wide))
    finish none none h =
        let all : fvs p ≡ g.xs = h.passed ∙ append-nil g.xs in
        let len : length (fvs p) ≡ n = ap length all ∙ sym h.counted in
        let each : (x : ℕ) → x < n → In x g.xs = λ x l. subst (In x) all (below_once x (fvs p) f.once (omega arith)) in
        let one : (x : ℕ) → x < n → width (h.trees x) ≡ 1 = λ x l. one_wide (h.trees x) (h.held x (each x l)).0 in
        let θ = side n h.trees in
        let picks : (x : ℕ) → x < n → binding θ x ≡ h.trees x = side_pick n h.trees one in
        let wide : width θ ≡ n = side_wide n h.trees one in (
          sym len,
          (
            θ,
            record {
              wide = wide;
              terms = side_terms n h.trees (λ x l. (h.held x (each x l)).0);
              reads = λ x l. ap flat (picks x l) ∙ (h.held x (each x l)).1;
            },
            h.back θ tt (λ x m. picks x (subst (λ k. x < k) len (once_below x (fvs p) f.once (subst (In x) (sym all) m)))),
            λ other w m. rows_same other θ (w ∙ sym wide) (λ x l. let b = subst (λ k. x < k) w l in (h.forth other m).1 x (each x b) ∙ sym (picks x b)),
          ),
        )
