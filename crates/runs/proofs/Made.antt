-- Calls that each keep their contract, made one after the other on a fresh run, keep the theorem. Assumes nothing.
use Rattle.std.proofs.Common.{◌≡◌, ℕ, ◌-◌, ◌≤◌, ◌⊎◌, List, [], ◌∷◌, ◌++◌, length, drop, replicate, sym, refl, ap, ◌∙◌, subst, inl, inr, append_assoc, arith, length-append}
use Rattle.calculus.specs.declared.Calculus.{Ghosts}
use lib.ListN.{length-replicate}
use lib.Seq.{drop-append_seam}
use Rattle.calculus.specs.Meaning.{Meaning}
use Rattle.calculus.specs.Laws.{Laws}
use Rattle.runs.specs.Chain.{Chain, fresh, told, Event, opening, stepping, settling, withdrawing, accepted, refused, Turn}
use Rattle.runs.specs.Follows.{Follows, Opening, Opens}
use Rattle.runs.specs.Theorem.{laid, Replayed}
use Rattle.runs.specs.Calls.{chain_of, table_after, Called}
use Rattle.runs.specs.declared.run.Run.{Run}
use Rattle.runs.specs.declared.call.State.TheVariants.{Idle, Open}
use Rattle.runs.specs.declared.call.Said.{Said}
use Rattle.runs.specs.Answers.{Answer}
use Rattle.runs.proofs.Turns.{as_chain}
use Rattle.runs.proofs.Runs.{Held, held_on, fresh_held, replayed}

-- the calls are made in turn, and this is said to each
abbrev pub Made : {C : Type 0} {G : Ghosts C} → Meaning → Run C G → List ℕ → List Event → List Said → Run C G → List ℕ → Type 0
Made m run table [] [] run' table' = (run' ≡ run) × (table' ≡ table)
Made m run table [] (x ∷ xs) run' table' = ⊥
Made m run table (e ∷ es) [] run' table' = ⊥
Made {C} {G} m run table (e ∷ es) (x ∷ xs) run' table' =
    (next : Run C G) × ((after : List ℕ) × Called m run next table after e x.answer × (x.tells ≡ told (chain_of next after)) × Made m next after es xs run' table')

-- one call more
pub made_more : {C : Type 0} {G : Ghosts C} (m : Meaning) (run run₁ run₂ : Run C G) (table table₁ table₂ : List ℕ) (es : List Event) (xs : List Said) (e : Event) (x : Said) → Made m run table es xs run₁ table₁ → Called m run₁ run₂ table₁ table₂ e x.answer → x.tells ≡ told (chain_of run₂ table₂) → Made m run table (es ++ (e ∷ [])) (xs ++ (x ∷ [])) run₂ table₂
made_more {C} {G} m run run₁ run₂ table table₁ table₂ [] [] e x f c t =
    let here = subst (λ (r : Run C G). Called m r run₂ table₁ table₂ e x.answer) f.0 c in
    (run₂, (table₂, subst (λ u. Called m run run₂ u table₂ e x.answer) f.1 here, t, (refl, refl)))
made_more m run run₁ run₂ table table₁ table₂ [] (y ∷ xs) e x f c t = absurd f
made_more m run run₁ run₂ table table₁ table₂ (d ∷ es) [] e x f c t = absurd f
made_more m run run₁ run₂ table table₁ table₂ (d ∷ es) (y ∷ xs) e x f c t =
    (f.0, (f.1.0, f.1.1, f.1.2, made_more m f.0 run₁ run₂ f.1.0 table₁ table₂ es xs e x f.1.3 c t))

past_term : (t table : List ℕ) → length t ≤ 2048 → drop 2048 (laid t table) ≡ drop 2048 table
past_term t table h =
    let front = t ++ replicate (2048 - length t) 0 in
    let l : length front ≡ 2048 = omega (arith, length-append t (replicate (2048 - length t) 0), length-replicate {A = ℕ} (2048 - length t) 0) in
    let e : laid t table ≡ front ++ drop 2048 table = sym (append_assoc t (replicate (2048 - length t) 0) (drop 2048 table)) in
    ap (drop 2048) e ∙ ap (λ n. drop n (front ++ drop 2048 table)) (sym l) ∙ drop-append_seam front (drop 2048 table)

-- What is known of the table: B says that an opening was accepted.
record Stands (B : Type 0) (c : Chain) (first table : List ℕ) : Type 0 where
  pub was : c.state ≡ Open → B
  pub holds : B → table ≡ laid c.end first
  pub stays : (B → ⊥) → table ≡ first
  pub past : drop 2048 table ≡ drop 2048 first

module _ (m : Meaning) (laws : Laws m) where
  stands_on : (B : Type 0) (first : List ℕ) (c c' : Chain) (e : Event) (a : Answer) (table table' : List ℕ) → Turn m c e a c' → Held m c → table' ≡ table_after a c'.end table → Stands B c first table → Stands (B ⊎ Opening a) c' first table'
  stands_on B first c c' e a table table' (refused r f g h) k t s =
      let same : table' ≡ table = t ∙ ap (λ b. table_after b c'.end table) g in
      record {
        was = λ o. inl (s.was (ap (λ (d : Chain). d.state) (sym h) ∙ o));
        holds = either (λ b. same ∙ s.holds b ∙ ap (λ (d : Chain). laid d.end first) (sym h)) (λ o. absurd (subst Opening g o));
        stays = λ n. same ∙ s.stays (λ b. n (inl b));
        past = ap (drop 2048) same ∙ s.past;
      }
    where
      either : {P Q R : Type 0} → (P → R) → (Q → R) → P ⊎ Q → R
      either f g (inl p) = f p
      either f g (inr q) = g q
  stands_on B first c c' (opening start lent) a table table' (accepted y p) k t s =
      let put : table' ≡ laid c'.end table = t ∙ ap (λ b. table_after b c'.end table) p.0 in
      let few : length c'.end ≤ 2048 = subst (λ (d : Chain). length d.end ≤ 2048) (sym p.1) y.1.1.1.0.few in
      let o : Opening a = subst Opening (sym p.0) tt in
      record {
        was = λ _. inr o;
        holds = λ _. put ∙ ap (λ l. c'.end ++ (replicate (2048 - length c'.end) 0 ++ l)) s.past;
        stays = λ n. absurd (n (inr o));
        past = ap (drop 2048) put ∙ past_term c'.end table few ∙ s.past;
      }
  stands_on B first c c' (stepping q lent) a table table' (accepted y p) k t s =
      let put : table' ≡ laid c'.end table = t ∙ ap (λ b. table_after b c'.end table) p.0 in
      let b : B = s.was y.1.0 in
      let open' : c'.state ≡ Open = ap (λ (d : Chain). d.state) p.1.2 ∙ y.1.0 in
      let few : length c'.end ≤ 2048 = (held_on m laws c c' (stepping q lent) a (accepted y p) k open').0.few in
      record {
        was = λ _. inl b;
        holds = λ _. put ∙ ap (λ l. c'.end ++ (replicate (2048 - length c'.end) 0 ++ l)) s.past;
        stays = λ n. absurd (n (inl b));
        past = ap (drop 2048) put ∙ past_term c'.end table few ∙ s.past;
      }
  stands_on B first c c' (settling ticket claim lent) a table table' (accepted y p) k t s =
      let same : table' ≡ table = t ∙ ap (λ b. table_after b c'.end table) p.0.1 in
      let b : B = s.was y.1.0 in
      record {
        was = λ o. inl b;
        holds = λ _. same ∙ s.holds b ∙ ap (λ (d : Chain). laid d.end first) (sym p.1);
        stays = λ n. absurd (n (inl b));
        past = ap (drop 2048) same ∙ s.past;
      }
  stands_on B first c c' (withdrawing ticket) a table table' (accepted y p) k t s =
      let same : table' ≡ table = t ∙ ap (λ b. table_after b c'.end table) p.0 in
      let b : B = s.was y.0 in
      record {
        was = λ o. inl b;
        holds = λ _. same ∙ s.holds b ∙ ap (λ (d : Chain). laid d.end first) (sym p.1);
        stays = λ n. absurd (n (inl b));
        past = ap (drop 2048) same ∙ s.past;
      }

  -- what holds at the end of the calls
  record Ends (B : Type 0) (c c' : Chain) (es : List Event) (xs : List Said) (first table' : List ℕ) : Type 0 where
    pub follows : Follows m c es xs c'
    pub holds : B ⊎ Opens xs → table' ≡ laid c'.end first
    pub stays : (B ⊎ Opens xs → ⊥) → table' ≡ first

  regroup : (B P Q : Type 0) → B ⊎ (P ⊎ Q) → (B ⊎ P) ⊎ Q
  regroup B P Q (inl b) = inl (inl b)
  regroup B P Q (inr (inl p)) = inl (inr p)
  regroup B P Q (inr (inr q)) = inr q

  group : (B P Q : Type 0) → (B ⊎ P) ⊎ Q → B ⊎ (P ⊎ Q)
  group B P Q (inl (inl b)) = inl b
  group B P Q (inl (inr p)) = inr (inl p)
  group B P Q (inr q) = inr (inr q)

  only_left : (B : Type 0) → B ⊎ ⊥ → B
  only_left B (inl b) = b
  only_left B (inr n) = absurd n

  ends : {C : Type 0} {G : Ghosts C} (B : Type 0) (first : List ℕ) (run run' : Run C G) (table table' : List ℕ) (es : List Event) (xs : List Said) → Made m run table es xs run' table' → Held m (chain_of run table) → Stands B (chain_of run table) first table → Ends B (chain_of run table) (chain_of run' table') es xs first table'
  ends {C} {G} B first run run' table table' [] [] f k s =
      let same : chain_of run' table' ≡ chain_of run table = ap (λ (r : Run C G). chain_of r table') f.0 ∙ ap (chain_of run) f.1 in
      record {
        follows = same;
        holds = λ b. f.1 ∙ s.holds (only_left B b) ∙ ap (λ (d : Chain). laid d.end first) (sym same);
        stays = λ n. f.1 ∙ s.stays (λ b. n (inl b));
      }
  ends B first run run' table table' [] (x ∷ xs) f k s = absurd f
  ends B first run run' table table' (e ∷ es) [] f k s = absurd f
  ends B first run run' table table' (e ∷ es) (x ∷ xs) f k s =
      let next = f.0 in
      let after = f.1.0 in
      let turn = as_chain m (chain_of run table) k e x.answer (chain_of next after) f.1.1.turn in
      let k' = held_on m laws (chain_of run table) (chain_of next after) e x.answer turn k in
      let s' = stands_on B first (chain_of run table) (chain_of next after) e x.answer table after turn k f.1.1.table_is s in
      let r = ends (B ⊎ Opening x.answer) first next run' after table' es xs f.1.3 k' s' in
      record {
        follows = (chain_of next after, turn, f.1.2, r.follows);
        holds = λ b. r.holds (regroup B (Opening x.answer) (Opens xs) b);
        stays = λ n. r.stays (λ b. n (group B (Opening x.answer) (Opens xs) b));
      }

  -- the theorem, from the contracts of the calls
  pub from_calls : {C : Type 0} {G : Ghosts C} (run run' : Run C G) (table table' : List ℕ) (es : List Event) (xs : List Said) → chain_of run table ≡ fresh → Made m run table es xs run' table' → Replayed m es xs table table'
  from_calls run run' table table' es xs new f =
      let held : Held m (chain_of run table) = subst (Held m) (sym new) (fresh_held m laws) in
      let idle : (chain_of run table).state ≡ Open → ⊥ = λ o. let e : Idle ≡ Open = ap (λ (d : Chain). d.state) (sym new) ∙ o in cc in
      let s : Stands ⊥ (chain_of run table) table table = record { was = idle; holds = λ b. absurd b; stays = λ _. refl; past = refl } in
      let r = ends ⊥ table run run' table table' es xs f held s in
      replayed m laws es xs table table' (chain_of run' table') (subst (λ c. Follows m c es xs (chain_of run' table')) new r.follows) (λ o. r.holds (inr o)) (λ n. r.stays (λ b. n (right b)))
    where
      right : ⊥ ⊎ Opens xs → Opens xs
      right (inl b) = absurd b
      right (inr o) = o
