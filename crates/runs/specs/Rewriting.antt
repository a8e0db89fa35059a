-- What is answered on the way through a step's questions, and where the terms stand.
use Rattle.std.specs.Prelude.{◌≡◌, ℕ, ◌≤◌, List, ◌∷◌, take, Ok, Err, Result}
use Rattle.terms.specs.Terms.{Laid}
use Rattle.terms.specs.Places.{At}
use Rattle.calculus.specs.Meaning.{Meaning}
use Rattle.runs.specs.Questions.{asks, FirstNo}
use Rattle.runs.specs.Steps.{Step, step_questions, Leads}
use Rattle.runs.specs.declared.call.State.{State}
use Rattle.runs.specs.declared.call.State.TheVariants.{Open}
use Rattle.runs.specs.declared.step.Step.{Step as StepOf}
use Rattle.runs.specs.declared.refusal.Refusal.{Refusal}
use Rattle.runs.specs.declared.rewriting.Parts.{Parts}
use Rattle.runs.specs.declared.refusal.Refusal.TheVariants as no

-- the step that code is handed
abbrev pub step_of : StepOf → Step
step_of s = record { rule = s.rule; place = s.place.now; argument = s.argument; inner = s.inner.now }

-- The redex at the place stands between these cells, and the place is a site.
pub record Found (m : Meaning) (cells place left redex right : List ℕ) : Type 0 where
  pub there : At cells place left redex right
  pub site : m.site place cells

module _ (m : Meaning) (cells : List ℕ) (s : Step) where
  -- 8 and 9: where the redex stands
  abbrev pub RedexAsked : Result Parts Refusal → Type 0
  RedexAsked (Ok v) = Found m cells s.place v.left.now v.redex.now v.right.now
  RedexAsked (Err r) = FirstNo (step_questions m cells s) r

  -- 8 to 16: the term that the step leads to stands there
  abbrev pub RewriteAsked : (space : List ℕ) → Result ℕ Refusal → Type 0
  RewriteAsked space (Ok n) = Leads m cells s (take n space) × (n ≤ 2048)
  RewriteAsked space (Err r) = FirstNo (step_questions m cells s) r

  -- 6 to 16: the run is open and is left so, the term is held, and the one that the step leads to stands there
  abbrev pub StepAnswered : State → (space : List ℕ) → Result (State × ℕ) Refusal → Type 0
  StepAnswered state space (Ok p) =
      (p.0 ≡ Open) × (state ≡ Open) × (Laid cells × m.lawful cells) × Leads m cells s (take p.1 space) × (p.1 ≤ 2048)
  StepAnswered state space (Err r) =
      FirstNo (asks (state ≡ Open) no.NotOpen ∷ asks (Laid cells × m.lawful cells) no.Tampered ∷ step_questions m cells s) r
