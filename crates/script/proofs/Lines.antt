-- A line that begins so is no other line. Assumes nothing.
use Rattle.std.proofs.Common.{◌≡◌, ℕ, ◌⊎◌, List, inl, inr, rules, Result, Err}
use Rattle.std.specs.Prelude.{codes}
use Rattle.script.specs.Words.{Words, ReadsIf}
use Rattle.script.specs.Line.{Begins, HasForm, ReadsOpen, ReadsStep, ReadsSettle, ReadsLine}
use Rattle.script.specs.declared.fault.Bad.{Bad}
use Rattle.script.specs.declared.fault.Bad.TheVariants.{Memory}
use Rattle.script.specs.declared.line.Line.{Line}
use Rattle.script.specs.declared.line.Line.TheVariants.{Step, Settle}
use Rattle.script.specs.declared.part.Part.{Part}

module _ (words : Words) (cells cells_after entries entries_after : List ℕ) (r : Result Line Bad) where
  pub opens : Begins words (codes "open") 1 → ReadsOpen words cells cells_after entries entries_after r → ReadsLine words cells cells_after entries entries_after r
  opens f o = record {
    memory = search rules;
    opening = o;
    step = search rules;
    settle = search rules;
    withdraw = search rules;
    tell = search rules;
    table = search rules;
    others = inr (inl f);
  }

  pub steps : HasForm words (codes "step") 5 → ReadsStep words cells cells_after entries entries_after r → ReadsLine words cells cells_after entries entries_after r
  steps f s = record {
    memory = search rules;
    opening = search rules;
    step = s;
    settle = search rules;
    withdraw = search rules;
    tell = search rules;
    table = search rules;
    others = inr (inr (inl f));
  }

  pub settles : Begins words (codes "settle") 2 → ReadsSettle words cells cells_after entries entries_after r → ReadsLine words cells cells_after entries entries_after r
  settles f s = record {
    memory = search rules;
    opening = search rules;
    step = search rules;
    settle = s;
    withdraw = search rules;
    tell = search rules;
    table = search rules;
    others = inr (inr (inr (inl f)));
  }

-- an error that is handed on
pub carried : {T : Type 0} (r : Result T Bad) {P R : Type 0} (Q : T → Type 0) (e : Bad) → r ≡ Err e → (e ≡ Memory) ⊎ (¬ R) → (P → R) → ReadsIf r P Q
carried r Q e is g f = rw is (elim g [ inl m ↦ inl m | inr n ↦ inr (λ p. n (f p)) ])

-- lines are equal whose parts are
pub same_step : (rule argument n m : ℕ) (place inner p q : Part) → rule ≡ n → argument ≡ m → place ≡ p → inner ≡ q → ◌≡◌ {A = Line} (Step rule argument place inner) (Step n m p q)
same_step rule argument n m place inner p q a b c d = cc

pub same_settle : (ticket n : ℕ) (claim p : Part) → ticket ≡ n → claim ≡ p → ◌≡◌ {A = Line} (Settle ticket claim) (Settle n p)
same_settle ticket n claim p a b = cc
