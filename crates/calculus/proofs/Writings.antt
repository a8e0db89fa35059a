-- What a line's step answers and writes is what the meaning of the figure asks. Assumes nothing.
use Rattle.std.proofs.Common.{◌≡◌, ℕ, ◌<◌, ◌≤◌, List, ◌++◌, length, drop, Ok, Err, Result, sym, refl, ap, ◌∙◌, subst, inl, inr}
use Rattle.terms.specs.Rows.{Row, flat}
use Rattle.terms.specs.Terms.{Small}
use Rattle.terms.proofs.Trees.{flat_size}
use Rattle.terms.proofs.Bridge.{below_small, small_below}
use Rattle.calculus.specs.declared.no.No.{No}
use Rattle.calculus.specs.declared.no.No.TheVariants.{NoRule, Unfit, Formless, Barred, Oversum, Overlong}
use Rattle.calculus.specs.Line.{Redex, Gives as LineGives, Says}
use Rattle.calculus.specs.Meaning.{Taken, Tried, Gives, Refuses}
use Rattle.calculus.specs.Answers.{StepAsked}
use Rattle.calculus.specs.Figures.{Figure, meaning_of}
use Rattle.calculus.specs.Written.{Written}

module _ (f : Figure) (rule argument : ℕ) (inner redex space space' : List ℕ) where
  -- 10, 11, and 12 for cells that may not be tried
  pub no_rule : (f.HasRule rule → ⊥) → space' ≡ space → StepAsked (meaning_of f) rule argument inner redex space space' (Err NoRule)
  no_rule h e = (e, h)

  pub unfit : f.HasRule rule → (f.Apt rule argument inner → ⊥) → space' ≡ space → StepAsked (meaning_of f) rule argument inner redex space space' (Err Unfit)
  unfit h a e = (e, (h, a))

  taken_redex : Taken (meaning_of f) redex → Redex f.Term redex
  taken_redex t =
      let w = t.lawful in
      record { row = w.row; lawful = w.lawful; low = small_below w.row (subst Small (sym w.reads) t.small); reads = w.reads }

  pub no_redex : f.HasRule rule → f.Apt rule argument inner → (Redex f.Term redex → ⊥) → space' ≡ space → StepAsked (meaning_of f) rule argument inner redex space space' (Err Formless)
  no_redex h a n e = (e, inl (h, a, λ t. n (taken_redex t)))

  -- a redex that may be tried
  module _ (has : f.HasRule rule) (apt : f.Apt rule argument inner) (d : Redex f.Term redex) where
    tried : Tried (meaning_of f) rule argument inner redex
    tried =
        record {
          has_rule = has;
          fits = apt;
          taken = record { lawful = record { row = d.row; lawful = d.lawful; reads = d.reads }; small = subst Small d.reads (below_small d.row d.low) };
        }

    given : (u : Row) → LineGives (f.line rule argument inner d.row) u → Gives (meaning_of f) rule argument inner redex (flat u)
    given u g = record { tried = tried; gives = record { row = u; answers = (d, (has, apt, g)); reads = refl } }

    refused : (k : ℕ) → Says (f.HasRule rule) (f.Apt rule argument inner) (f.line rule argument inner d.row) (Err k) → Refuses (meaning_of f) rule argument inner redex k
    refused k s = record { tried = tried; refuses = inl (d, s) }

    pub step_asked : (r : Result ℕ No) → Written (f.line rule argument inner d.row) space space' r → StepAsked (meaning_of f) rule argument inner redex space space' r
    step_asked (Ok n) w =
        let s = flat_size w.row in
        record {
          result = flat w.row;
          gives = given w.row w.gives;
          enough = subst (λ k. k ≤ length space) (sym s) w.enough;
          length_is = w.count ∙ sym s;
          writes = w.writes ∙ ap (λ k. flat w.row ++ drop k space) (sym s);
        }
    step_asked (Err NoRule) (e, w) = absurd w
    step_asked (Err Unfit) (e, w) = absurd w
    step_asked (Err Formless) (e, w) = (e, inr (refused 12 (inr (inr (inl (refl, has, apt, w))))))
    step_asked (Err Barred) (e, w) = (e, refused 13 (inr (inr (inr (inl (refl, has, apt, w))))))
    step_asked (Err Oversum) (e, w) = (e, refused 14 (inr (inr (inr (inr (refl, has, apt, w))))))
    step_asked (Err Overlong) (e, (u, g, l)) = (e, (flat u, given u g, subst (λ k. length space < k) (sym (flat_size u)) l))
