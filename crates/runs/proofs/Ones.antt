-- Only question 1 tells 1. Assumes nothing.
use Rattle.std.proofs.Common.{◌≡◌, ℕ, List, [], ◌∷◌, inl, inr}
use Rattle.calculus.specs.Meaning.{Meaning}
use Rattle.runs.specs.Questions.{Question, FirstNo}
use Rattle.runs.specs.Steps.{Step, layout, lawful, step_questions}
use Rattle.runs.specs.Chain.{Chain, opening, stepping, settling, questions, idle, openable, going, held, matching, memory, Enough}
use Rattle.runs.specs.declared.call.Lent.{Lent}
use Rattle.runs.specs.declared.refusal.Refusal.{Refusal}
use Rattle.runs.specs.declared.refusal.Refusal.TheVariants as no

-- a refusal that is not 1
abbrev pub IsPast1 : Refusal → Type 0
IsPast1 r = r ≡ no.Memory → ⊥

abbrev Past : List (Question Refusal) → Type 0
Past [] = Unit {0}
Past (q ∷ qs) = ((r : Refusal) → q.no r → IsPast1 r) × Past qs

past_no : (qs : List (Question Refusal)) (r : Refusal) → Past qs → FirstNo qs r → IsPast1 r
past_no [] r p n = absurd n
past_no (q ∷ qs) r p (inl n) = p.0 r n
past_no (q ∷ qs) r p (inr n) = past_no qs r p.1 n.1

step_past : (m : Meaning) (cells : List ℕ) (s : Step) → Past (step_questions m cells s)
step_past m cells s = (
  λ r n e. cc (n.2, e),
  (
    λ r n e. cc (n.2, e),
    (
      λ r n e. cc (n.2, e),
      (
        λ r n e. cc (n.2, e),
        (
          λ r n e. cc (n.2, e),
          (
            λ r n e. cc (n.2, e),
            (
              λ r n e. cc (n.2, e),
              (λ r n e. cc (n.2, e), (λ r n e. cc (n.2, e), tt)),
            ),
          ),
        ),
      ),
    ),
  ),
)

module _ (m : Meaning) (c : Chain) (r : Refusal) (lent : Lent) (enough : Enough lent) where
  behind : (qs : List (Question Refusal)) → Past qs → FirstNo (memory lent ∷ qs) r → IsPast1 r
  behind qs p (inl n) = absurd (n.0 enough)
  behind qs p (inr n) = past_no qs r p n.1

  pub open_past : (start : List ℕ) → FirstNo (questions m c (held m c ∷ []) (opening start lent)) r → IsPast1 r
  open_past start n =
      behind (idle m c ∷ openable m c ∷ layout start ∷ lawful m start ∷ []) (λ q n e. cc (n.1, e), (λ q n e. cc (n.1, e), (λ q n e. cc (n.2, e), (λ q n e. cc (n.2, e), tt)))) n

  pub stepping_past : (s : Step) → FirstNo (questions m c (held m c ∷ []) (stepping s lent)) r → IsPast1 r
  stepping_past s n =
      behind (going m c ∷ held m c ∷ step_questions m c.end s) (λ q n e. cc (n.1, e), (λ q n e. cc (n.1, e), step_past m c.end s)) n

  pub settling_past : (ticket : ℕ) (claim : List ℕ) → FirstNo (questions m c (held m c ∷ []) (settling ticket claim lent)) r → IsPast1 r
  settling_past ticket claim n =
      behind (going m c ∷ matching m c ticket ∷ held m c ∷ layout claim ∷ lawful m claim ∷ []) (λ q n e. cc (n.1, e), (λ q n e. cc (n.1, e), (λ q n e. cc (n.1, e), (λ q n e. cc (n.2, e), (λ q n e. cc (n.2, e), tt))))) n
