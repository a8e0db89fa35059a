-- The whole figure: its lines numbered from the top, what a rule gives and when it refuses.
use Rattle.std.specs.Prelude.{◌≡◌, ℕ, ◌-◌, ◌≤◌, ◌⊎◌, List, [], ◌∷◌, Result, slice_index_or}
use Rattle.terms.specs.Rows.{Row}
use Rattle.calculus.specs.Line as Line
use Rattle.calculus.specs.Line.{always}
use Rattle.verse.specs.Syntax.{Term}
use Rattle.verse.specs.Lines.{Rule, app_add, app_gt, app_gt_fail, app_beta, app_tup, app_tup_0, u_lit, u_tup, u_fail, u_occurs, subst_in, hnf_swap, var_swap, seq_swap, val_elim, exi_elim, eqn_elim, fail_elim, exi_float, seq_assoc, eqn_float, exi_swap, one_fail, one_value, one_choice, all_fail, all_value, all_choice, choose_r, choose_l, choose_assoc, choose}

abbrev pub figure : List Rule
figure =
    app_add ∷ app_gt ∷ app_gt_fail ∷ app_beta ∷ app_tup ∷ app_tup_0
    ∷ u_lit ∷ u_tup ∷ u_fail ∷ u_occurs ∷ subst_in ∷ hnf_swap ∷ var_swap ∷ seq_swap
    ∷ val_elim ∷ exi_elim ∷ eqn_elim ∷ fail_elim
    ∷ exi_float ∷ seq_assoc ∷ eqn_float ∷ exi_swap
    ∷ one_fail ∷ one_value ∷ one_choice ∷ all_fail ∷ all_value ∷ all_choice ∷ choose_r ∷ choose_l ∷ choose_assoc ∷ choose
    ∷ []

-- the line of a rule number; past the figure one that has no left side
abbrev pub line : ℕ → Rule
line n = slice_index_or figure (n - 1) (λ inner t. always ⊥ (λ l. t))

-- Has the calculus that rule? (else 10)
abbrev pub HasRule : ℕ → Type 0
HasRule n = (1 ≤ n) × (n ≤ 32)

-- Rules 11, 17, 18, 19 and 32 have an inner place.
abbrev pub HasInner : ℕ → Type 0
HasInner n = (n ≡ 11) ⊎ ((n ≡ 17) ⊎ ((n ≡ 18) ⊎ ((n ≡ 19) ⊎ (n ≡ 32))))

-- Is the argument, which no rule uses, 0, and an unused inner place empty? (else 11)
abbrev pub Apt : ℕ → ℕ → List ℕ → Type 0
Apt n argument inner = (argument ≡ 0) × (HasInner n ⊎ (inner ≡ []))

-- The meaning: of a rule, an argument, an inner place and a redex, a term or a number from 10 to 14.
abbrev pub Says : ℕ → ℕ → List ℕ → Row → Result Row ℕ → Type 0
Says n argument inner t a = Line.Says (HasRule n) (Apt n argument inner) (line n inner t) a

-- the same of any cells
abbrev pub Answers : ℕ → ℕ → List ℕ → List ℕ → Result Row ℕ → Type 0
Answers n argument inner cells a = Line.Answers Term (HasRule n) (Apt n argument inner) (line n inner) cells a
