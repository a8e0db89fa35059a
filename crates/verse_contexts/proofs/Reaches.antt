-- What a walk has come to on its way down an inner place. Assumes nothing.
use Rattle.std.proofs.Common.{◌≡◌, ℕ, List, subst}
use Rattle.terms.specs.Forest.{Are}
use Rattle.terms.specs.Rows.{Row}
use Rattle.terms.specs.declared.forest.Trees.{Trees}
use Rattle.verse.specs.Syntax.{Exp}

-- From t the place has led to another expression, with what is left of the place: what that leads to there, the place
-- leads to from t.
pub record Reached {R : Type 0} (Leads : List ℕ → Row → ℕ → R → Type 0) (inner : List ℕ) (t : Row) (at : ℕ) (left : List ℕ) (there : Trees) : Type 0 where
  pub u : Row
  pub lawful : Exp u
  pub stands : Are there u
  pub onward : (r : R) → Leads left u there.at r → Leads inner t at r

pub reach : {R : Type 0} (Leads : List ℕ → Row → ℕ → R → Type 0) (inner : List ℕ) (t : Row) (there : Trees) → Exp t → Are there t → Reached Leads inner t there.at inner there
reach Leads inner t there h s = record { u = t; lawful = h; stands = s; onward = λ r w. w }

-- a step further
pub further : {R : Type 0} {Leads : List ℕ → Row → ℕ → R → Type 0} {inner left : List ℕ} {t : Row} {at : ℕ} {there : Trees} (v : Reached Leads inner t at left there) {left' : List ℕ} {there' : Trees} {u : Row} → Exp u → Are there' u → (i : ℕ) → there'.at ≡ i → ((r : R) → Leads left' u i r → Leads left v.u there.at r) → Reached Leads inner t at left' there'
further {Leads = Leads} v {left'} {there'} {u} h s i e f =
    record { u = u; lawful = h; stands = s; onward = λ r w. v.onward r (f r (subst (λ j. Leads left' u j r) e w)) }
