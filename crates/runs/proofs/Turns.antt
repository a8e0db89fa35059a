-- A chain has one turn for each call, and a run whose table is held turns as the chain does. Assumes nothing.
use Rattle.std.proofs.Common.{◌≡◌, ℕ, ◌<◌, ◌↔◌, List, [], ◌∷◌, get_or, take, sym, refl, ap, ◌∙◌, subst, inl, inr, get_or-take, Ok, Err}
use Rattle.terms.specs.Terms.{Laid}
use Rattle.terms.specs.Places.{whole}
use Rattle.terms.proofs.Unique.{one_part, order}
use Rattle.calculus.specs.Meaning.{Meaning, Gives}
use Rattle.calculus.specs.Laws.{Laws}
use Rattle.runs.specs.Questions.{AllYes, FirstNo}
use Rattle.runs.specs.Steps.{Step, Rewrites, Leads}
use Rattle.runs.specs.Chain.{Chain, Event, opening, stepping, settling, withdrawing, questions, held, Accepted, TurnBy, accepted, refused, Turn, Compared, Enough, moved}
use Rattle.runs.specs.declared.call.State.TheVariants.{Open}
use Rattle.runs.specs.declared.call.Lent.{Lent}
use Rattle.runs.specs.declared.call.Settlement.{Settlement}
use Rattle.runs.specs.declared.call.Settlement.TheVariants.{Reached, Differs}
use Rattle.runs.specs.Answers.{Answer}
use Rattle.runs.specs.declared.call.Done.TheVariants.{Stepped, Settled}
use Rattle.runs.specs.declared.refusal.Refusal.{Refusal}
use Rattle.runs.proofs.Decided.{yes_no, one_no, all_decided}

-- the term with what the calculus gives is one
pub one_rewrite : (m : Meaning) → Laws m → (cells : List ℕ) (s : Step) (u v : List ℕ) → Rewrites m cells s u → Rewrites m cells s v → u ≡ v
one_rewrite m laws cells s u v a b =
    let e = one_part cells s.place a.left a.redex a.right b.left b.redex b.right a.at b.at in
    let g = subst (λ z. Gives m s.rule s.argument s.inner z a.result) e.1 a.gives in
    let f = laws.single s.rule s.argument s.inner b.redex a.result b.result g b.gives in
    a.is ∙ ap (λ z. whole z a.result a.right) e.0 ∙ ap (λ z. whole b.left z a.right) f ∙ ap (λ z. whole b.left b.result z) e.2 ∙ sym b.is

-- a settlement says one thing
pub one_settlement : (claim end : List ℕ) (v w : Settlement) → Compared claim end v → Compared claim end w → v ≡ w
one_settlement claim end Reached Reached a b = refl
one_settlement claim end Reached (Differs i) a b = absurd (b.other (ap (λ l. get_or l i 0) a))
one_settlement claim end (Differs i) Reached a b = absurd (a.other (ap (λ l. get_or l i 0) b))
one_settlement claim end (Differs i) (Differs j) a b =
    ap Differs (order i j (λ h. a.other (at claim end i j h b.same)) (λ h. b.other (at claim end j i h a.same)))
  where
    at : (xs ys : List ℕ) (k n : ℕ) → k < n → take n xs ≡ take n ys → get_or xs k 0 ≡ get_or ys k 0
    at xs ys k n h e = sym (get_or-take n xs k 0 h) ∙ ap (λ l. get_or l k 0) e ∙ get_or-take n ys k 0 h

module _ (m : Meaning) (laws : Laws m) (c : Chain) where
  one_acceptance : (e : Event) (a b : Answer) (c₁ c₂ : Chain) → Accepted m c e a c₁ → Accepted m c e b c₂ → (a ≡ b) × (c₁ ≡ c₂)
  one_acceptance (opening start lent) a b c₁ c₂ p q = (p.0 ∙ sym q.0, p.1 ∙ sym q.1)
  one_acceptance (stepping s lent) a b c₁ c₂ p q =
      let f = one_rewrite m laws c.end s p.1.0 q.1.0 p.1.1.there q.1.1.there in
      (p.0 ∙ sym q.0, p.1.2 ∙ ap (moved c) f ∙ sym q.1.2)
  one_acceptance (settling ticket claim lent) a b c₁ c₂ p q =
      let f = one_settlement claim c.end p.0.0 q.0.0 p.0.2 q.0.2 in
      (p.0.1 ∙ ap (λ (v : Settlement). Ok (Settled v)) f ∙ sym q.0.1, p.1 ∙ sym q.1)
  one_acceptance (withdrawing ticket) a b c₁ c₂ p q = (p.0 ∙ sym q.0, p.1 ∙ sym q.1)

  -- a call has one answer, and the chain goes one way
  pub one_turn : (e : Event) (a b : Answer) (c₁ c₂ : Chain) → Turn m c e a c₁ → Turn m c e b c₂ → (a ≡ b) × (c₁ ≡ c₂)
  one_turn e a b c₁ c₂ (accepted y p) (accepted z q) = one_acceptance e a b c₁ c₂ p q
  one_turn e a b c₁ c₂ (accepted y p) (refused r f g h) = absurd (yes_no (questions m c [] e) r (all_decided m laws c [] e tt) y f)
  one_turn e a b c₁ c₂ (refused r f g h) (accepted y p) = absurd (yes_no (questions m c [] e) r (all_decided m laws c [] e tt) y f)
  one_turn e a b c₁ c₂ (refused r f g h) (refused s f' g' h') =
      (g ∙ ap Err (one_no (questions m c [] e) r s (all_decided m laws c [] e tt) f f') ∙ sym g', h ∙ sym h')

-- where 7 is yes of an open run, the run turns as the chain does
module _ (m : Meaning) (c : Chain) (yes : c.state ≡ Open → Laid c.end × m.lawful c.end) where
  all_but_seven : (e : Event) → AllYes (questions m c (held m c ∷ []) e) → AllYes (questions m c [] e)
  all_but_seven (opening start lent) y = y
  all_but_seven (stepping s lent) y = (y.0, (y.1.0, y.1.1.1))
  all_but_seven (settling ticket claim lent) y = (y.0, (y.1.0, (y.1.1.0, y.1.1.1.1)))
  all_but_seven (withdrawing ticket) y = y

  first_but_seven : (e : Event) (r : Refusal) → FirstNo (questions m c (held m c ∷ []) e) r → FirstNo (questions m c [] e) r
  first_but_seven (opening start lent) r n = n
  first_but_seven (stepping s lent) r (inl n) = inl n
  first_but_seven (stepping s lent) r (inr (y, inl n)) = inr (y, inl n)
  first_but_seven (stepping s lent) r (inr (y, inr (z, inl n))) = absurd (n.0 (yes z))
  first_but_seven (stepping s lent) r (inr (y, inr (z, inr n))) = inr (y, inr (z, n.1))
  first_but_seven (settling ticket claim lent) r (inl n) = inl n
  first_but_seven (settling ticket claim lent) r (inr (y, inl n)) = inr (y, inl n)
  first_but_seven (settling ticket claim lent) r (inr (y, inr (z, inl n))) = inr (y, inr (z, inl n))
  first_but_seven (settling ticket claim lent) r (inr (y, inr (z, inr (w, inl n)))) = absurd (n.0 (yes z))
  first_but_seven (settling ticket claim lent) r (inr (y, inr (z, inr (w, inr n)))) = inr (y, inr (z, inr (w, n.1)))
  first_but_seven (withdrawing ticket) r n = n

  pub as_chain : (e : Event) (a : Answer) (c' : Chain) → TurnBy m (held m c ∷ []) c e a c' → Turn m c e a c'
  as_chain e a c' (accepted y p) = accepted (all_but_seven e y) p
  as_chain e a c' (refused r f g h) = refused r (first_but_seven e r f) g h

-- An open chain with enough memory accepts a step exactly when it leads from the end to a term.
module _ (m : Meaning) (laws : Laws m) (c : Chain) where
  pub accepts : (s : Step) (lent : Lent) (a : Answer) (c' : Chain) → Turn m c (stepping s lent) a c' → c.state ≡ Open → Enough lent → (a ≡ Ok Stepped) ↔ ((to : List ℕ) × Leads m c.end s to)
  accepts s lent a c' (accepted y p) o n = (λ _. (p.1.0, p.1.1), λ _. p.0)
  accepts s lent a c' (refused r f g h) o n =
      (λ e. let k : ◌≡◌ {A = Answer} (Err r) (Ok Stepped) = sym g ∙ e in absurd (cc), λ l. absurd (yes_no (questions m c [] (stepping s lent)) r (all_decided m laws c [] (stepping s lent) tt) (n, (o, l.1.yes)) f))

  -- An accepted settlement says reached exactly when the claim is the end.
  pub settles : (ticket : ℕ) (claim : List ℕ) (lent : Lent) (v : Settlement) (c' : Chain) → Turn m c (settling ticket claim lent) (Ok (Settled v)) c' → (v ≡ Reached) ↔ (claim ≡ c.end)
  settles ticket claim lent v c' (refused r f g h) = absurd (cc)
  settles ticket claim lent v c' (accepted y ((w, g, k), h)) =
      let e : v ≡ w = cc in
      (λ x. subst (Compared claim c.end) (sym e ∙ x) k, λ x. e ∙ one_settlement claim c.end w Reached k x)
