-- Program rules one after the other: a program, or where it is bad. Assumes nothing.
use Rattle.std.proofs.Common.{◌≡◌, ℕ, ◌+◌, Bool, true, false, List, ◌++◌, take, drop, Some, None, Decides, Option, MatchOption, sym, refl, ap, ◌∙◌, subst, append_assoc, arith, take-append-drop, Bor}
use Rattle.std.specs.Bool.{then_some}
use Rattle.std.proofs.lemmas.Bool.Decides.{not_from_Decides}
use Rattle.terms.specs.Rows.{Row, flat, width, ◌&◌, Counted}
use Rattle.terms.specs.Rows.Row.{none, node}
use Rattle.terms.specs.Standing.{Ends}
use Rattle.terms.proofs.Inject.{width-&}
use Rattle.terms.proofs.Trees.{flat-&, same}
use Rattle.terms.proofs.Bridge.{formed_counted}
use Rattle.terms.proofs.Endings.{stands_cells}
use Rattle.lets.specs.Syntax.{ProgramRule, ProgramRules}
use Rattle.lets.specs.Checks.{RuleCells, RuleFirst, NoRuleFirst}

pub rule_counted : (t : Row) → ProgramRule t → Counted t
rule_counted t p = formed_counted t p.layout.formed

-- A program rule at the front of the cells stands there alone.
module _ (cells : List ℕ) where
  pub no_rule : Ends 1 cells 0 None → NoRuleFirst cells
  no_rule n t l p e = n t (record { counted = rule_counted t p; wide = p.layout.single; rest = l; reads = e })

  module _ (end : ℕ) (ends : Ends 1 cells 0 (Some end)) where
    first_is : take end cells ≡ flat ends.0
    first_is = stands_cells ends.1 end (omega (arith, ends.2))

    pub bad_rule : (RuleCells (take end cells) → ⊥) → NoRuleFirst cells
    bad_rule n t l p e =
        let q = ends.1 in
        let o = (same t ends.0 l q.rest (rule_counted t p) q.counted (p.layout.single ∙ sym q.wide) (e ∙ sym q.reads)).0 in
        n (record { row = t; rule = p; reads = ap flat o ∙ sym first_is })

    pub good_rule : RuleCells (take end cells) → RuleFirst cells (drop end cells)
    good_rule c = (c.row, c.rule, ap (λ l. l ++ drop end cells) c.reads ∙ take-append-drop end cells)

    -- whether it does, as the cells before `end` say
    pub rule_or_none : (b : Bool) (r : Option (Bor (List ℕ))) (rest : Bor (List ℕ)) → r ≡ then_some b rest → Decides b (RuleCells (take end cells)) → rest.now ≡ drop end cells → MatchOption r (NoRuleFirst cells) (λ x. RuleFirst cells x.now)
    rule_or_none true r rest e d is = subst (λ x. MatchOption x (NoRuleFirst cells) (λ y. RuleFirst cells y.now)) (sym e) (subst (RuleFirst cells) (sym is) (good_rule (d.0 refl)))
    rule_or_none false r rest e d is = subst (λ x. MatchOption x (NoRuleFirst cells) (λ y. RuleFirst cells y.now)) (sym e) (bad_rule (not_from_Decides _ d refl))

-- So many program rules lie before the cells that are left.
pub record SoFar (cells : List ℕ) (number : ℕ) (left : List ℕ) : Type 0 where
  pub good : Row
  pub rules : ProgramRules good
  pub many : width good ≡ number
  pub reads : flat good ++ left ≡ cells

pub rules-& : (p t : Row) → ProgramRules p → ProgramRules t → ProgramRules (p & t)
rules-& none t a b = b
rules-& (node c ks r) t a b = (a.0, rules-& r t a.1 b)

one_rule : (t : Row) → ProgramRule t → ProgramRules t
one_rule none p = tt
one_rule (node c ks none) p = (p, tt)
one_rule (node c ks (node d js r)) p = absurd (omega (arith, p.layout.single))

module _ (cells : List ℕ) (number : ℕ) (left : List ℕ) (s : SoFar cells number left) where
  -- one more
  pub so_far_more : (rest : List ℕ) → RuleFirst left rest → SoFar cells (number + 1) rest
  so_far_more rest (t, p, e) =
      record {
        good = s.good & t;
        rules = rules-& s.good t s.rules (one_rule t p);
        many = omega (arith, width-& s.good t, s.many, p.layout.single);
        reads = ap (λ l. l ++ rest) (flat-& s.good t) ∙ append_assoc (flat s.good) (flat t) rest ∙ ap (λ l. flat s.good ++ l) e ∙ s.reads;
      }
