-- The two sides of a program rule, and what makes its cells one. Assumes nothing.
use Rattle.std.proofs.Common.{◌≡◌, ℕ, ◌+◌, ◌-◌, ◌*◌, ◌^◌, ◌<◌, ◌≤◌, Bool, true, false, cond, ltb, List, [], ◌∷◌, ◌++◌, length, get_or, take, drop, is_some, Some, None, Decides, Option, sym, refl, ap, ◌∙◌, subst, append-nil, arith, length-append, length-drop}
use Rattle.std.proofs.lemmas.Bool.Decides.{nat_tests}
use Rattle.std.proofs.lemmas.List.{drop-drop, drop_at, take_at, take_all}
use Rattle.terms.specs.Cells.{kind, binder, children, zeros, payload, cell}
use Rattle.terms.specs.Lists.{count}
use Rattle.terms.specs.Rows.{Row, flat, size, width, ◌&◌, fvs, Free, Counted, Layout}
use Rattle.terms.specs.Rows.Row.{none, node}
use Rattle.terms.specs.Terms.{TreeOf, Laid}
use Rattle.terms.specs.Standing.{Stands, Ends}
use Rattle.terms.proofs.Inject.{inj-&, inj_kids, lawful_width}
use Rattle.terms.proofs.Trees.{flat_size, flat-&, same}
use Rattle.terms.proofs.Unique.{one_tree}
use Rattle.terms.proofs.Deciding.{holds, fails}
use Rattle.terms.proofs.Moves.{free_left, plain_out}
use Rattle.terms.proofs.Bridge.{laid_layout, layout_laid, formed_counted}
use Rattle.terms.proofs.Skips.{halves}
use Rattle.lets.specs.Syntax.{admits, kids, arrow, Lawful, Term}
use Rattle.lets.specs.Syntax.Sort.{term, rule, left}
use Rattle.lets.specs.Checks.{Admitted, LeftCells, payloads, EachOnce, Numbered, Bounded, RuleCells}
use Rattle.lets.proofs.Unique.{count_in}
use Rattle.lets.proofs.Sides.{cells_term, term_cells, cells_left, left_cells_of, left_frees}

-- the one cell that a rule begins with
pub rule_cell : (c : ℕ) → admits rule c ≡ true → c ≡ cell 36 0 2 0
unfolding admits
rule_cell c a =
    let k : kind c ≡ 36 = grind (arith, nat_tests) in
    let b : binder c ≡ 0 = grind (arith, nat_tests) in
    let n : children c ≡ 2 = grind (arith, nat_tests) in
    let z : zeros c ≡ 0 = grind (arith, nat_tests) in
    let p : payload c ≡ 0 = grind (arith, nat_tests) in
    let one = first k b in
    let two = second one.0 one.1 n in
    let three = third two.0 two.1 z in
    last two.0 three p
  where
    first : kind c ≡ 36 → binder c ≡ 0 → (36 * 2 ^ 58 ≤ c) × (c < 36 * 2 ^ 58 + 2 ^ 57)
    first k b = (omega (arith, k), omega (arith, k, b))

    second : 36 * 2 ^ 58 ≤ c → c < 36 * 2 ^ 58 + 2 ^ 57 → children c ≡ 2 → (36 * 2 ^ 58 + 2 * 2 ^ 48 ≤ c) × (c < 36 * 2 ^ 58 + 3 * 2 ^ 48)
    second l h n = (omega (arith, l, h, n), omega (arith, l, h, n))

    third : 36 * 2 ^ 58 + 2 * 2 ^ 48 ≤ c → c < 36 * 2 ^ 58 + 3 * 2 ^ 48 → zeros c ≡ 0 → c < 36 * 2 ^ 58 + 2 * 2 ^ 48 + 2 ^ 32
    third l h z = omega (arith, l, h, z)

    last : 36 * 2 ^ 58 + 2 * 2 ^ 48 ≤ c → c < 36 * 2 ^ 58 + 2 * 2 ^ 48 + 2 ^ 32 → payload c ≡ 0 → c ≡ cell 36 0 2 0
    last l h p = omega (arith, l, h, p)

-- The sides of a rule: the left one from the second cell to the middle, the right one from there on.
pub record Sides (cells : List ℕ) (mid : ℕ) : Type 0 where
  pub l : Row
  pub r : Row
  pub is : TreeOf cells (arrow l r)
  pub one_l : width l ≡ 1
  pub one_r : width r ≡ 1
  pub counted_l : Counted l
  pub counted_r : Counted r
  pub middle : mid ≡ 1 + size l
  pub lefts : take (mid - 1) (drop 1 cells) ≡ flat l
  pub rights : take (length cells - mid) (drop mid cells) ≡ flat r
  pub within : mid ≤ length cells
  pub stands : Stands r 1 cells mid

-- a rule's cells begin with its cell
rule_tree : (cells : List ℕ) (t : Row) → TreeOf cells t → admits rule (get_or cells 0 0) ≡ true → (ks : Row) × (t ≡ node (cell 36 0 2 0) ks none)
rule_tree cells none is a = absurd (omega (arith, is.one))
rule_tree cells (node c ks (node d js r)) is a = absurd (omega (arith, is.one))
rule_tree cells (node c ks none) is a =
    let hd : get_or cells 0 0 ≡ c = ap (λ l. get_or l 0 0) (sym is.reads) in
    (ks, ap (λ x. node x ks none) (rule_cell c (sym (ap (admits rule) hd) ∙ a)))

-- the cells of a program rule keep the layout and begin with its cell
pub rule_laid : (cells : List ℕ) → RuleCells cells → Laid cells
rule_laid cells c = subst Laid c.reads (layout_laid c.row c.rule.layout)

pub rule_first : (cells : List ℕ) → RuleCells cells → admits rule (get_or cells 0 0) ≡ true
unfolding admits
rule_first cells c =
    let e : get_or cells 0 0 ≡ cell 36 0 2 0 = ap (λ l. get_or l 0 0) (sym c.reads ∙ ap flat c.rule.is) in
    ap (admits rule) e

-- its two children cut apart where the first ends
apart : (cells : List ℕ) (ks : Row) (mid : ℕ) (s : Row) → TreeOf cells (node (cell 36 0 2 0) ks none) → Stands s 1 cells 1 → mid ≡ 1 + size s → Sides cells mid
apart cells ks mid s is q m =
    let two : width ks ≡ 1 + 1 = sym is.counted.1 in
    let v = halves ks 1 1 two is.counted.2 in
    let e : flat v.a ++ flat v.b ≡ drop 1 cells = sym (flat-& v.a v.b) ∙ ap flat (sym v.is) ∙ sym (append-nil (flat ks)) ∙ ap (drop 1) is.reads in
    let first : v.a ≡ s = (same v.a s (flat v.b) q.rest v.counted_a q.counted (v.left ∙ sym q.wide) (e ∙ sym q.reads)).0 in
    let long : length (flat v.a) ≡ mid - 1 = flat_size v.a ∙ omega (arith, ap size first) in
    let far : mid ≡ 1 + (mid - 1) = omega arith in
    let right : drop mid cells ≡ flat v.b =
    ap (λ k. drop k cells) far ∙ sym (drop-drop (mid - 1) 1 cells) ∙ ap (drop (mid - 1)) (sym e) ∙ drop_at (flat v.a) (flat v.b) (mid - 1) long in
    record {
      l = v.a;
      r = v.b;
      is = subst (λ x. TreeOf cells (node (cell 36 0 2 0) x none)) v.is is;
      one_l = v.left;
      one_r = v.right;
      counted_l = v.counted_a;
      counted_r = v.counted_b;
      middle = omega (arith, m, ap size first);
      lefts = ap (take (mid - 1)) (sym e) ∙ take_at (flat v.a) (flat v.b) (mid - 1) long;
      rights = take_all (length cells - mid) (drop mid cells) (omega (arith, length-drop mid cells)) ∙ right;
      within = omega (arith, m, ap size first, ap length is.reads, ap length e, length-append (flat v.a) (flat v.b), flat_size v.a, length-drop 1 cells, flat_size ks, length-append (flat ks) []);
      stands = record { counted = v.counted_b; wide = v.right; rest = []; reads = append-nil (flat v.b) ∙ sym right };
    }

module _ (cells : List ℕ) (lay : Laid cells) where
  -- cells that keep the layout are some
  pub not_empty : 0 < length cells
  not_empty = omega (arith, ap length (sym lay.is.reads) ∙ flat_size lay.tree, some lay.tree lay.is.one)
    where
      some : (t : Row) → width t ≡ 1 → 1 ≤ size t
      some none w = absurd (omega arith)
      some (node c ks r) w = omega arith

  module _ (a : admits rule (get_or cells 0 0) ≡ true) where
    pub sides : (mid : ℕ) → Ends 1 cells 1 (Some mid) → Sides cells mid
    sides mid (s, q, m) = let t = rule_tree cells lay.tree lay.is a in apart cells t.0 mid s (subst (TreeOf cells) t.1 lay.is) q m

    pub has_sides : Ends 1 cells 1 None → ⊥
    has_sides none_there =
        let t = rule_tree cells lay.tree lay.is a in
        let is = subst (TreeOf cells) t.1 lay.is in
        let two : width t.0 ≡ 1 + 1 = sym is.counted.1 in
        let v = halves t.0 1 1 two is.counted.2 in
        none_there v.a (record {
          counted = v.counted_a;
          wide = v.left;
          rest = flat v.b;
          reads = sym (flat-& v.a v.b) ∙ ap flat (sym v.is) ∙ sym (append-nil (flat t.0)) ∙ ap (drop 1) is.reads;
        })

-- A rule has no more than 1,024 variables on its left.
pub few_variables : (l r : Row) → EachOnce (fvs l) → Layout (arrow l r) → length (fvs l) ≤ 1024
few_variables l r once lay = go (ltb 1024 (length (fvs l))) refl
  where
    go : (b : Bool) → ltb 1024 (length (fvs l)) ≡ b → length (fvs l) ≤ 1024
    go false e = grind (arith, nat_tests)
    go true e =
        let c : count 1024 (fvs l) ≡ 1 = once 1024 ∙ ap (λ b. cond b 1 0) e in
        let f = plain_out (cell 36 0 2 0) (l & r) (λ z. omega arith) refl 1024 (free_left 1024 l r (count_in 1024 (fvs l) (omega (arith, c)))) in
        let w : 1024 < 1024 = lay.low 1024 f in
        absurd (omega arith)

module _ (cells : List ℕ) (mid : ℕ) (s : Sides cells mid) where
  -- a rule with these cells has these sides
  same_sides : (c : RuleCells cells) → (c.rule.l ≡ s.l) × (c.rule.r ≡ s.r)
  same_sides c =
      let p = c.rule in
      let t : TreeOf cells c.row = record { one = p.layout.single; counted = formed_counted c.row p.layout.formed; reads = c.reads } in
      let e : arrow p.l p.r ≡ arrow s.l s.r = sym p.is ∙ one_tree cells c.row (arrow s.l s.r) t s.is in
      let k = inj_kids _ _ (p.l & p.r) (s.l & s.r) none none e in
      inj-& p.l p.r s.l s.r (lawful_width admits kids (left ∷ []) p.l p.lawful.0 ∙ sym s.one_l) k

  rule_left : (c : RuleCells cells) → Lawful (left ∷ []) s.l
  rule_left c = subst (Lawful (left ∷ [])) (same_sides c).0 c.rule.lawful.0

  -- the left cells are not those of a left side, or the right ones not those of a term
  pub not_left : (LeftCells (take (mid - 1) (drop 1 cells)) → ⊥) → RuleCells cells → ⊥
  not_left n c = n (subst LeftCells (sym s.lefts) (left_cells_of s.l (rule_left c)))

  pub not_right : (Admitted term (take (length cells - mid) (drop mid cells)) → ⊥) → RuleCells cells → ⊥
  not_right n c = n (subst (Admitted term) (sym s.rights) (term_cells s.r (subst Term (same_sides c).1 c.rule.lawful.1)))

  variables_are : Lawful (left ∷ []) s.l → fvs s.l ≡ payloads (take (mid - 1) (drop 1 cells))
  variables_are h = left_frees s.l h ∙ ap payloads (sym s.lefts)

  -- the variables on the left are not numbered, or the right has another
  pub not_numbered : Numbered (take (mid - 1) (drop 1 cells)) None → RuleCells cells → ⊥
  not_numbered n c =
      let e = same_sides c in
      let once = subst (λ l. EachOnce (fvs l)) e.0 c.rule.once in
      let v = variables_are (rule_left c) in
      let lay : Layout (arrow s.l s.r) = subst (λ x. Layout (arrow x s.r)) e.0 (subst (λ x. Layout (arrow c.rule.l x)) e.1 (subst Layout c.rule.is c.rule.layout)) in
      n (subst (λ xs. length xs ≤ 1024) v (few_variables s.l s.r once lay)) (subst EachOnce v once)

  pub not_below : (n : ℕ) → n ≡ length (payloads (take (mid - 1) (drop 1 cells))) → Bounded n 0 0 1 cells mid None → RuleCells cells → ⊥
  not_below n m b c =
      let e = same_sides c in
      let v = ap length (variables_are (rule_left c)) in
      b s.r s.stands (λ x h.
      let w = c.rule.below x (subst (Free x) (sym e.1) h) in
      let u : length (fvs c.rule.l) ≡ n = ap (λ l. length (fvs l)) e.0 ∙ v ∙ sym m in
      omega arith)

  -- or all is well
  pub rule_cells : Laid cells → LeftCells (take (mid - 1) (drop 1 cells)) → Admitted term (take (length cells - mid) (drop mid cells)) → (n e : ℕ) → Numbered (take (mid - 1) (drop 1 cells)) (Some n) → Bounded n 0 0 1 cells mid (Some e) → RuleCells cells
  rule_cells lay lc rc n e num b =
      let lawful_l = cells_left s.l s.one_l s.counted_l (subst LeftCells s.lefts lc) in
      let v = variables_are lawful_l in
      let many : length (fvs s.l) ≡ n = ap length v ∙ sym num.0 in
      let whole : lay.tree ≡ arrow s.l s.r = one_tree cells lay.tree (arrow s.l s.r) lay.is s.is in
      record {
        row = arrow s.l s.r;
        rule =
            record {
              l = s.l;
              r = s.r;
              is = refl;
              layout = subst Layout whole (laid_layout cells lay);
              lawful = (lawful_l, cells_term s.r s.one_r s.counted_r (subst (Admitted term) s.rights rc));
              once = subst EachOnce (sym v) num.2;
              below = λ x h. let w = (b s.r s.stands).1 x h in omega (arith, many);
            };
        reads = s.is.reads;
      }

  -- the last question decides
  pub rule_decided : Laid cells → LeftCells (take (mid - 1) (drop 1 cells)) → Admitted term (take (length cells - mid) (drop mid cells)) → (n : ℕ) → Numbered (take (mid - 1) (drop 1 cells)) (Some n) → (o : Option ℕ) (b : Bool) → b ≡ is_some o → Bounded n 0 0 1 cells mid o → Decides b (RuleCells cells)
  rule_decided lay lc rc n num (Some e) b is bound = subst (λ x. Decides x (RuleCells cells)) (sym is) (holds (rule_cells lay lc rc n e num bound))
  rule_decided lay lc rc n num None b is bound = subst (λ x. Decides x (RuleCells cells)) (sym is) (fails (not_below n num.0 bound))
