-- From what a calculus answers to what a step is answered. Assumes nothing.
use Rattle.std.proofs.Common.{◌≡◌, ℕ, ◌<◌, ◌≤◌, List, ◌++◌, length, refl, inl, inr, arith, length-append}
use Rattle.terms.specs.Terms.{Deep}
use Rattle.terms.specs.Places.{Names, At, whole}
use Rattle.calculus.specs.Meaning.{Meaning, Gives, Refuses}
use Rattle.calculus.specs.Laws.{Laws}
use Rattle.calculus.specs.Answers.{Refused}
use Rattle.calculus.specs.declared.no.No.{No}
use Rattle.calculus.specs.declared.no.No.TheVariants as say
use Rattle.runs.specs.Questions.{FirstNo}
use Rattle.runs.specs.Steps.{Step, Redex, step_questions, Rewrites, Leads}
use Rattle.runs.specs.declared.refusal.Refusal.{Refusal}
use Rattle.runs.specs.declared.refusal.Refusal.TheVariants as no

module _ (m : Meaning) (laws : Laws m) (cells : List ℕ) (s : Step) where
  module _ (l x r : List ℕ) (a : At cells s.place l x r) where
    here : (P : (left redex right : List ℕ) → Type 0) → P l x r → (i : ℕ) × Redex cells s.place P i
    here P p = (length l, record { left = l; redex = x; right = r; at = a; so = p; cell = refl })

    there : (Q : (left redex right : List ℕ) → Type 0) (f : ℕ → Refusal) → Q l x r → (i : ℕ) × Redex cells s.place Q i × (f (length l) ≡ f i)
    there Q f q = (length l, record { left = l; redex = x; right = r; at = a; so = q; cell = refl }, refl)

    names : Names s.place cells
    names = record { tree = a.tree; is = a.is; there = a.there }

    module _ (site : m.site s.place cells) where
      off : (j k : ℕ) → Refuses m s.rule s.argument s.inner x j → Refuses m s.rule s.argument s.inner x k → j < k → ⊥
      off j k p q f = let e = laws.number s.rule s.argument j k s.inner x p q in omega (arith, e)

      never : (u : List ℕ) (k : ℕ) → Gives m s.rule s.argument s.inner x u → Refuses m s.rule s.argument s.inner x k → ⊥
      never u k g h = laws.either s.rule s.argument k s.inner x u g h

      -- 10 to 15, as the calculus says with a space of 2,048 cells
      pub says_no : (e : No) → Refused m s.rule s.argument s.inner x 2048 e → FirstNo (step_questions m cells s) (no.Calculus e (length l))
      says_no say.NoRule h = inr (names, inr (here _ site, inl (there _ (no.Calculus say.NoRule) h)))
      says_no say.Unfit h = inr (names, inr (here _ site, inr (here _ h.0, inl (there _ (no.Calculus say.Unfit) h.1))))
      says_no say.Formless (inl h) =
          inr (names, inr (here _ site, inr (here _ h.0, inr (here _ h.1, inl (there _ (no.Calculus say.Formless) (inl h.2))))))
      says_no say.Formless (inr h) =
          inr (names, inr (here _ site, inr (here _ h.tried.has_rule, inr (here _ h.tried.fits, inl (there _ (no.Calculus say.Formless) (inr h))))))
      says_no say.Barred h =
          inr (names, inr (here _ site, inr (here _ h.tried.has_rule, inr (here _ h.tried.fits, inr (here _ (h.tried.taken, λ k. off 12 13 k h (omega arith)), inl (there _ (no.Calculus say.Barred) h))))))
      says_no say.Oversum h =
          inr (names, inr (here _ site, inr (here _ h.tried.has_rule, inr (here _ h.tried.fits, inr (here _ (h.tried.taken, λ k. off 12 14 k h (omega arith)), inr (here _ (λ k. off 13 14 k h (omega arith)), inl (there _ (no.Calculus say.Oversum) h)))))))
      says_no say.Overlong (u, g, h) =
          inr (names, inr (here _ site, inr (here _ g.tried.has_rule, inr (here _ g.tried.fits, inr (here _ (g.tried.taken, never u 12 g), inr (here _ (never u 13 g), inr (here _ (never u 14 g), inl (there _ (no.Calculus say.Overlong) (u, g, omega (arith, h, length-append l (u ++ r), length-append u r))))))))))

      module _ (u : List ℕ) (g : Gives m s.rule s.argument s.inner x u) where
        rewrites : Rewrites m cells s (whole l u r)
        rewrites = record { left = l; redex = x; right = r; at = a; result = u; gives = g; is = refl }

        -- 15, of the whole
        pub too_long : 2048 < length (whole l u r) → FirstNo (step_questions m cells s) (no.Calculus say.Overlong (length l))
        too_long h =
            inr (names, inr (here _ site, inr (here _ g.tried.has_rule, inr (here _ g.tried.fits, inr (here _ (g.tried.taken, never u 12 g), inr (here _ (never u 13 g), inr (here _ (never u 14 g), inl (there _ (no.Calculus say.Overlong) (u, g, h)))))))))

        module _ (short : length (whole l u r) ≤ 2048) (d : ℕ) (deep : Deep (whole l u r) d) where
          -- 16
          pub too_deep : 256 < d → FirstNo (step_questions m cells s) (no.TooDeep (length l))
          too_deep h =
              inr (names, inr (here _ site, inr (here _ g.tried.has_rule, inr (here _ g.tried.fits, inr (here _ (g.tried.taken, never u 12 g), inr (here _ (never u 13 g), inr (here _ (never u 14 g), inr (here _ (u, g, short), inl (there _ no.TooDeep (u, g, (d, deep, h)))))))))))

          -- all yes: the step leads to the whole
          pub leads : d ≤ 256 → Leads m cells s (whole l u r)
          leads h =
              record { yes = (names, (here _ site, (here _ g.tried.has_rule, (here _ g.tried.fits, (here _ (g.tried.taken, never u 12 g), (here _ (never u 13 g), (here _ (never u 14 g), (here _ (u, g, short), (here _ (u, g, (d, deep, h)), tt))))))))); there = rewrites }
