-- What the calculus is asked, by what its parts answer. Assumes nothing.
use Rattle.std.proofs.Common.{◌≡◌, ℕ, zero, suc, ◌-◌, ◌<◌, ◌≤◌, ◌⊎◌, Bool, true, eqb, List, [], ◌∷◌, length, take, drop, replicate, is_some, is_ok, Some, None, Ok, Err, Option, Result, sym, refl, subst, inl, inr, arith}
use Rattle.std.proofs.lemmas.Bool.Decides.{nat_tests}
use Rattle.terms.specs.Rows.{Row, flat, Place, width}
use Rattle.terms.specs.Rows.Row.{none, node}
use Rattle.terms.specs.Grammar.{At}
use Rattle.terms.specs.Reading.{trees}
use Rattle.terms.specs.Descents.{Reached}
use Rattle.terms.specs.Terms.{Small, TreeOf}
use Rattle.terms.proofs.Bridge.{at_place, formed_counted, below_small, small_below}
use Rattle.terms.proofs.Endings.{stands_cells}
use Rattle.terms.proofs.Unique.{one_tree, not_astray}
use Rattle.calculus.specs.Answers.{SiteAsked}
use Rattle.calculus.specs.Figures.{Spells}
use Rattle.calculus.specs.Line.{Redex}
use Rattle.lets.specs.Answers.{TermJudged}
use Rattle.lets.specs.Figure.{HasRule}
use Rattle.lets.specs.Meaning.{meaning}
use Rattle.lets.specs.Owned.{RuleStands, RuleAsked}
use Rattle.lets.specs.Syntax.{admits, kids, Lawful, Term}
use Rattle.lets.specs.Syntax.Sort.{term}
use Rattle.lets.proofs.Meaning.{formed}
use Rattle.rewriting.specs.Matchings.{RuleOf}
use Rattle.rewriting.specs.declared.rule.Rule.{Rule}
use Rattle.rewriting.specs.declared.rule.Rule.TheVariants.{Fapp, LetIn, Bind, Elim, Flat}
use Rattle.rewriting.specs.Rules.{number}

-- cells that the judge lets pass are a lawful term
pub judged_term : (cells : List ℕ) (r : Result (ℕ × ℕ) ℕ) → TermJudged cells r → true ≡ is_ok r → Spells Term cells
judged_term cells (Ok v) j e = record { row = j.1.row; lawful = j.1.lawful; reads = j.1.reads }
judged_term cells (Err i) j e = let z : ◌≡◌ {A = ℕ} 0 1 = cc e in absurd (omega arith)

-- with low variables they are a redex
pub redex_of : (cells : List ℕ) → Spells Term cells → Small cells → Redex Term cells
redex_of cells s h =
    record { row = s.row; lawful = s.lawful; low = small_below s.row (subst Small (sym s.reads) h); reads = s.reads }

pub redex_small : (cells : List ℕ) → Redex Term cells → Small cells
redex_small cells d = subst Small d.reads (below_small d.row d.low)

pub redex_spells : (cells : List ℕ) → Redex Term cells → Spells Term cells
redex_spells cells d = record { row = d.row; lawful = d.lawful; reads = d.reads }

-- every place of a lawful term is a site
all_sites : (n : ℕ) (t : Row) (i : ℕ) (p : List ℕ) → Lawful (replicate n term) t → Place t i p → At admits kids (λ s c. Unit {0}) (replicate n term) t i p
unfolding kids
all_sites n none i p h g = absurd g
all_sites zero (node c ks r) i p h g = absurd h
all_sites (suc n) (node c ks r) zero [] h g = tt
all_sites (suc n) (node c ks r) zero (j ∷ p) h g = all_sites _ ks j p h.1 g
all_sites (suc n) (node c ks r) (suc i) p h g = all_sites n r i p h.2 g

-- the tree of a lawful term's cells
pub spelled_tree : {cells : List ℕ} (t : Row) → Term t → flat t ≡ cells → TreeOf cells t
spelled_tree t h e = record { one = (formed t h).0; counted = formed_counted t (formed t h).1; reads = e }

pub site_asked : (program : Row) (cells place : List ℕ) (r : Result ℕ ℕ) (b : Bool) → b ≡ is_ok r → (s : Spells Term cells) → Reached cells place r → SiteAsked (meaning program) cells place b
site_asked program cells place (Ok i) b e s c =
    subst (SiteAsked (meaning program) cells place) (sym e)
    (let same = one_tree cells c.at.tree s.row c.at.is (spelled_tree s.row s.lawful s.reads) in
    record { row = s.row; lawful = s.lawful; reads = s.reads; site = all_sites 1 s.row 0 place s.lawful (subst (λ t. Place t 0 place) same c.at.there) })
site_asked program cells place (Err k) b e s c =
    subst (SiteAsked (meaning program) cells place) (sym e) (λ o.
    not_astray place cells k (record { tree = o.row; is = spelled_tree o.row o.lawful o.reads; there = at_place admits kids (λ s c. Unit {0}) (term ∷ []) o.row 0 place o.site }) c)

-- the program has a rule of the number exactly if it is found
pub rule_there : (cells : List ℕ) (n : ℕ) (r : Option (ℕ × ℕ)) → RuleAsked cells n r → is_some r ≡ true → n < width (trees cells)
rule_there cells n (Some v) a e = a.there
rule_there cells n None a e = let z : ◌≡◌ {A = ℕ} 0 1 = cc e in absurd (omega arith)

pub there_rule : (cells : List ℕ) (n : ℕ) (r : Option (ℕ × ℕ)) → RuleAsked cells n r → n < width (trees cells) → is_some r ≡ true
there_rule cells n (Some v) a h = refl
there_rule cells n None a h = absurd (omega (arith, a))

-- its cells
pub rule_of : {cells : List ℕ} {n start end : ℕ} → RuleStands cells n start end → RuleOf (trees cells) n (take (end - start) (drop start cells))
rule_of s = (s.rule, sym (stands_cells s.stands _ (omega (arith, s.ended))))

-- a rule has a number, and three of them have no argument
pub has_rule : (rule : Rule) → HasRule (number rule)
has_rule Fapp = (omega arith, omega arith)
has_rule LetIn = (omega arith, omega arith)
has_rule Bind = (omega arith, omega arith)
has_rule Elim = (omega arith, omega arith)
has_rule Flat = (omega arith, omega arith)

pub no_argument : {rule : Rule} → (rule ≡ Bind) ⊎ (rule ≡ Elim) ⊎ (rule ≡ Flat) → 3 ≤ number rule
no_argument (inl e) = subst (λ r. 3 ≤ number r) (sym e) (omega arith)
no_argument (inr (inl e)) = subst (λ r. 3 ≤ number r) (sym e) (omega arith)
no_argument (inr (inr e)) = subst (λ r. 3 ≤ number r) (sym e) (omega arith)

-- no entries
pub no_entries : (l : List ℕ) → true ≡ eqb (length l) 0 → l ≡ []
no_entries [] e = refl
no_entries (x ∷ l) e = absurd (grind (arith, nat_tests, e))
