-- The program that a calculus owns: cells that are not known to be no program are one, and read as its rules. Assumes nothing.
use Rattle.std.proofs.Common.{◌≡◌, ℕ, zero, suc, ◌+◌, ◌<◌, ◌≤◌, true, false, cond, ltb, ◌⊎◌, List, [], ◌∷◌, length, is_some, Some, None, Option, sym, refl, ap, ◌∙◌, subst, inl, inr, arith}
use Rattle.terms.specs.Cells.{cell}
use Rattle.terms.specs.Lists.{count}
use Rattle.terms.specs.Rows.{Row, size, width, ◌&◌, fvs, Free, Counted, Layout, pick}
use Rattle.terms.specs.Rows.Row.{none, node}
use Rattle.terms.specs.Reading.{first, rest, trees}
use Rattle.terms.specs.Standing.{Stands, Ends}
use Rattle.terms.proofs.Inject.{top, under, lawful_width}
use Rattle.terms.proofs.Readings.{first-&, rest-&, first_rest, reads_flat, flat_reads}
use Rattle.terms.proofs.Stability.{Stable, part, stable_equal, stable_below, stable_most, stable_layout, stable_lawful}
use Rattle.terms.proofs.Deciding.{contrary}
use Rattle.terms.proofs.Steps.{moved}
use Rattle.terms.proofs.Endings.{one_stands, stands-&, stands_few, tree_stands_at}
use Rattle.lets.specs.Syntax.{admits, kids, Lawful, Term, ProgramRule, ProgramRules, Program, Has}
use Rattle.lets.specs.Syntax.Sort.{term, left}
use Rattle.lets.specs.Checks.{EachOnce, ProgramChecked}
use Rattle.lets.specs.Owned.{Sure, GoodRules, RuleAsked}
use Rattle.lets.proofs.Rulings.{rule_counted}

-- A program rule, its sides read off its tree.
record Read (c : ℕ) (ks : Row) : Type 0 where
  pub cell_is : c ≡ cell 36 0 2 0
  pub layout : Layout (node c ks none)
  pub lawful_l : Lawful (left ∷ []) (first 1 ks)
  pub lawful_r : Term (rest 1 ks)
  pub once : EachOnce (fvs (first 1 ks))
  pub below : (x : ℕ) → Free x (rest 1 ks) → x < length (fvs (first 1 ks))

read : (c : ℕ) (ks : Row) → ProgramRule (node c ks none) → Read c ks
read c ks p =
    let e : ks ≡ p.l & p.r = ap under p.is in
    let w : 1 ≡ width p.l = sym (lawful_width admits kids (left ∷ []) p.l p.lawful.0) in
    let l : p.l ≡ first 1 ks = sym (first-& p.l p.r 1 w) ∙ ap (first 1) (sym e) in
    let r : p.r ≡ rest 1 ks = sym (rest-& p.l p.r 1 w) ∙ ap (rest 1) (sym e) in
    record {
      cell_is = ap top p.is;
      layout = p.layout;
      lawful_l = subst (Lawful (left ∷ [])) l p.lawful.0;
      lawful_r = subst Term r p.lawful.1;
      once = subst (λ t. EachOnce (fvs t)) l p.once;
      below = λ x f. subst (λ t. x < length (fvs t)) l (p.below x (subst (Free x) (sym r) f));
    }

unread : (c : ℕ) (ks : Row) → Read c ks → ProgramRule (node c ks none)
unread c ks q =
    record {
      l = first 1 ks;
      r = rest 1 ks;
      is = ap (λ d. node d ks none) q.cell_is ∙ ap (λ s. node (cell 36 0 2 0) s none) (sym (first_rest 1 ks));
      layout = q.layout;
      lawful = (q.lawful_l, q.lawful_r);
      once = q.once;
      below = q.below;
    }

stable_read : (c : ℕ) (ks : Row) → Stable (Read c ks)
stable_read c ks h =
    record {
      cell_is = stable_equal c (cell 36 0 2 0) (part (λ q. q.cell_is) h);
      layout = stable_layout (node c ks none) (part (λ q. q.layout) h);
      lawful_l = stable_lawful admits kids (left ∷ []) (first 1 ks) (part (λ q. q.lawful_l) h);
      lawful_r = stable_lawful admits kids (term ∷ []) (rest 1 ks) (part (λ q. q.lawful_r) h);
      once = λ x. stable_equal (count x (fvs (first 1 ks))) (cond (ltb x (length (fvs (first 1 ks)))) 1 0) (part (λ q. q.once x) h);
      below = λ x f. stable_below x (length (fvs (first 1 ks))) (part (λ q. q.below x f) h);
    }

pub stable_rules : (p : Row) → Stable (ProgramRules p)
stable_rules none h = tt
stable_rules (node c ks r) h =
    (unread c ks (stable_read c ks (part (λ f. read c ks f.0) h)), stable_rules r (part (λ f. f.1) h))

-- Rules that cannot be refuted are good.
pub good_rules : (cells : List ℕ) → Sure (GoodRules cells) → GoodRules cells
good_rules cells h =
    record { rules = stable_rules (trees cells) (part (λ g. g.rules) h); few = stable_most (width (trees cells)) 256 (part (λ g. g.few) h) }

-- a program is what its cells read as
rules_counted : (p : Row) → ProgramRules p → Counted p
rules_counted none h = tt
rules_counted (node c ks r) h = let g = rule_counted (node c ks none) h.0 in (g.0, g.1, g.2, rules_counted r h.1)

pub program_reads : (cells : List ℕ) (p : Row) → Program cells p → trees cells ≡ p
program_reads cells p g = ap trees (sym g.reads) ∙ reads_flat p (rules_counted p g.rules)

-- The cells that are kept: those of a program, or none.
pub owned : (cells kept : List ℕ) (o : Option ℕ) → ProgramChecked cells o → ((is_some o ≡ true) × (kept ≡ [])) ⊎ ((is_some o ≡ false) × (kept ≡ cells)) → GoodRules kept × Has cells (trees kept)
owned cells kept None (p, g) (inl (z, e)) = absurd (contrary z refl)
owned cells kept None (p, g) (inr (z, e)) =
    let r : trees kept ≡ p = ap trees e ∙ program_reads cells p g in
    (record { rules = subst ProgramRules (sym r) g.rules; few = subst (λ t. width t ≤ 256) (sym r) g.few }, inl (subst (Program cells) (sym r) g))
owned cells kept (Some i) b (inr (z, e)) = absurd (contrary refl z)
owned cells kept (Some i) b (inl (z, e)) =
    let r : trees kept ≡ none = ap trees e in
    (record { rules = subst ProgramRules (sym r) tt; few = subst (λ t. width t ≤ 256) (sym r) (omega arith) }, inr (r, (i, b)))

-- each tree of the rules is one
pub rules_pick : (p : Row) (n : ℕ) → ProgramRules p → n < width p → ProgramRule (pick p n [])
rules_pick none n h l = absurd (omega arith)
rules_pick (node c ks r) zero h l = h.0
rules_pick (node c ks r) (suc n) h l = rules_pick r n h.1 (omega arith)

-- Where the rule of a number stands: it is what stands there, or there is none.
module _ (cells : List ℕ) (good : GoodRules cells) where
  counted : Counted (trees cells)
  counted = rules_counted (trees cells) good.rules

  pub rule_none : (number : ℕ) → Ends number cells 0 None → width (trees cells) ≤ number
  rule_none number n = stable_most (width (trees cells)) number (λ k.
      let t = tree_stands_at cells (trees cells) counted (flat_reads cells) number (omega arith) in
      n t.0 t.1)

  module _ (number start : ℕ) (before : Ends number cells 0 (Some start)) where
    there : number < width (trees cells) → Stands (pick (trees cells) number []) 1 cells start
    there l =
        let t = tree_stands_at cells (trees cells) counted (flat_reads cells) number l in
        let o : size before.0 ≡ size t.0 = ap size (one_stands before.1 t.1) in
        moved t.2 refl (omega (arith, before.2))

    pub rule_past : Ends 1 cells start None → width (trees cells) ≤ number
    rule_past n = stable_most (width (trees cells)) number (λ k. n (pick (trees cells) number []) (there (omega arith)))

    pub rule_there : (end : ℕ) → Ends 1 cells start (Some end) → RuleAsked cells number (Some (start, end))
    rule_there end (s, q, m) =
        let z = before.2 in
        let few = stands_few cells (trees cells) counted (flat_reads cells) (before.0 & s) (number + 1) (stands-& before.0 s before.1 q (omega arith)) in
        let t = there (omega arith) in
        record { there = omega arith; rule = rules_pick (trees cells) number good.rules (omega arith); stands = t; ended = omega (arith, m, ap size (one_stands q t)) }
