-- From what a run does in its turn to what its calls answer and leave. Assumes nothing.
use Rattle.std.proofs.Common.{◌≡◌, ℕ, ◌+◌, min, List, [], ◌∷◌, length, take, replicate, Ok, Err, sym, refl, ap, ◌∙◌, subst, inl, inr}
use Rattle.calculus.specs.declared.Calculus.{Ghosts}
use Rattle.layout.specs.declared.Walk.{Walk}
use Rattle.calculus.specs.Meaning.{Meaning}
use Rattle.runs.specs.Questions.{AllYes, FirstNo}
use Rattle.runs.specs.Steps.{Step, Leads}
use Rattle.runs.specs.Chain.{Event, opening, stepping, settling, withdrawing, Compared, questions, held, Enough, accepted, refused}
use Rattle.runs.specs.Theorem.{laid}
use Rattle.runs.specs.Calls.{chain_of, Called, Cleared, lent_of, OpenAsked, StepAsked, SettleAsked, WithdrawAsked}
use Rattle.runs.specs.Asked.{open_questions, withdraw_questions, settle_questions}
use Rattle.runs.specs.Rewriting.{StepAnswered}
use Rattle.runs.specs.Turning.{Moves}
use Rattle.runs.specs.declared.run.Run.{Run}
use Rattle.runs.specs.declared.ticket.Ticket.{Ticket}
use Rattle.runs.specs.declared.call.State.{State}
use Rattle.runs.specs.declared.call.State.TheVariants.{Idle, Open}
use Rattle.runs.specs.declared.call.Lent.{Lent}
use Rattle.runs.specs.declared.call.Settlement.{Settlement}
use Rattle.runs.specs.Answers.{Answer}
use Rattle.runs.specs.declared.call.Done.{Done}
use Rattle.runs.specs.declared.call.Done.TheVariants.{Opened, Stepped, Settled}
use Rattle.runs.specs.declared.refusal.Refusal.{Refusal}
use Rattle.runs.specs.declared.refusal.Refusal.TheVariants as no
use Rattle.runs.proofs.Ones.{IsPast1, open_past, stepping_past, settling_past}
use Rattle.runs.proofs.Tables.{front}

-- memory after 1, and after any other answer
module _ (scratch scratch' : List ℕ) (walk walk' : List Walk) where
  at_1 : (a : Answer) → a ≡ Err no.Memory → Cleared (a ≡ Err no.Memory) scratch scratch walk walk
  at_1 a e = record { zeros = λ n. absurd (n e); stays = λ _. (refl, refl) }

  past_zeros : (r : Refusal) → IsPast1 r → scratch' ≡ replicate (length scratch) 0 → Cleared (◌≡◌ {A = Answer} (Err r) (Err no.Memory)) scratch scratch' walk walk'
  past_zeros r p z = record { zeros = λ _. z; stays = λ e. absurd (p (cc)) }

  accepted_zeros : (d : Done) → scratch' ≡ replicate (length scratch) 0 → Cleared (◌≡◌ {A = Answer} (Ok d) (Err no.Memory)) scratch scratch' walk walk'
  accepted_zeros d z = record { zeros = λ _. z; stays = λ e. absurd (cc) }

-- a refused call leaves the run
refused_called : {C : Type 0} {G : Ghosts C} (m : Meaning) (run : Run C G) (table : List ℕ) (e : Event) (r : Refusal) → FirstNo (questions m (chain_of run table) (held m (chain_of run table) ∷ []) e) r → Called m run run table table e (Err r)
refused_called m run table e r n = record { calculus = refl; turn = refused r n refl refl; refused = λ _ _. refl; table_is = refl }

module _ {C : Type 0} {G : Ghosts C} (m : Meaning) (run run' : Run C G) where
  -- the chain after an accepted call
  chain_is : (state : State) (openings cells steps : ℕ) (end table : List ℕ) → Moves run run' state openings cells steps → take cells table ≡ end → chain_of run' table ≡ record { state = state; openings = openings; end = end; steps = steps }
  chain_is state openings cells steps end table v e = λ i. record {
    state = v.state_is i;
    openings = v.openings_is i;
    end = (ap (λ n. take n table) v.cells_is ∙ e) i;
    steps = v.steps_is i;
  }

  -- an accepted opening
  opened_called : (start table : List ℕ) (lent : Lent) → AllYes (questions m (chain_of run table) (held m (chain_of run table) ∷ []) (opening start lent)) → Moves run run' Open (run.told.openings + 1) (length start) 0 → Called m run run' table (laid start table) (opening start lent) (Ok (Opened run'.told.openings))
  opened_called start table lent y v =
      let there : take run'.told.cells (laid start table) ≡ start = ap (λ n. take n (laid start table)) v.cells_is ∙ front start table in
      record {
        calculus = v.calculus;
        turn = accepted y (ap (λ (n : ℕ). Ok (Opened n)) v.openings_is, chain_is Open (run.told.openings + 1) (length start) 0 start (laid start table) v (front start table));
        refused = λ r e. absurd (cc);
        table_is = ap (λ t. laid t table) (sym there);
      }

  -- an accepted step
  stepped_called : (s : Step) (to table : List ℕ) (lent : Lent) (n : ℕ) → length to ≡ n → AllYes (questions m (chain_of run table) (held m (chain_of run table) ∷ []) (stepping s lent)) → Moves run run' run.told.state run.told.openings n (min (run.told.steps + 1) 4294967295) → Leads m (take run.told.cells table) s to → Called m run run' table (laid to table) (stepping s lent) (Ok Stepped)
  stepped_called s to table lent n long y v l =
      let there : take n (laid to table) ≡ to = ap (λ k. take k (laid to table)) (sym long) ∙ front to table in
      let here : take run'.told.cells (laid to table) ≡ to = ap (λ k. take k (laid to table)) v.cells_is ∙ there in
      record {
        calculus = v.calculus;
        turn = accepted y (refl, (to, l, chain_is run.told.state run.told.openings n _ to (laid to table) v there));
        refused = λ r e. absurd (cc);
        table_is = ap (λ t. laid t table) (sym here);
      }

  -- an accepted settlement
  settled_called : (number : ℕ) (claim table : List ℕ) (lent : Lent) (v : Settlement) → AllYes (questions m (chain_of run table) (held m (chain_of run table) ∷ []) (settling number claim lent)) → Moves run run' Idle run.told.openings run.told.cells run.told.steps → Compared claim (take run.told.cells table) v → Called m run run' table table (settling number claim lent) (Ok (Settled v))
  settled_called number claim table lent v y w k =
      record {
        calculus = w.calculus;
        turn = accepted y ((v, refl, k), chain_is Idle run.told.openings run.told.cells run.told.steps (take run.told.cells table) table w refl);
        refused = λ r e. absurd (cc);
        table_is = refl;
      }

-- a call that is handed too little is refused by 1
module _ {C : Type 0} {G : Ghosts C} (m : Meaning) (run : Run C G) (table scratch : List ℕ) (walk : List Walk) (little : Enough (lent_of table scratch walk) → ⊥) where
  pub open_at_1 : (start : List ℕ) → OpenAsked m run run start table table scratch scratch walk walk (Err no.Memory)
  open_at_1 start =
      record { called = refused_called m run table (opening start (lent_of table scratch walk)) no.Memory (inl (little, refl)); cleared = at_1 scratch scratch walk walk (Err no.Memory) refl }

  pub step_at_1 : (s : Step) → StepAsked m run run s table table scratch scratch walk walk (Err no.Memory)
  step_at_1 s =
      record { called = refused_called m run table (stepping s (lent_of table scratch walk)) no.Memory (inl (little, refl)); cleared = at_1 scratch scratch walk walk (Err no.Memory) refl }

  pub settle_at_1 : (ticket : Ticket) (claim : List ℕ) → SettleAsked m run run ticket claim table scratch scratch walk walk (Err (no.Memory, ticket))
  settle_at_1 ticket claim =
      record { called = refused_called m run table (settling ticket.number claim (lent_of table scratch walk)) no.Memory (inl (little, refl)); cleared = at_1 scratch scratch walk walk (Err no.Memory) refl; ticket_back = refl }

-- a call that is handed enough
module _ {C : Type 0} {G : Ghosts C} (m : Meaning) (run : Run C G) (table scratch scratch' : List ℕ) (walk walk' : List Walk) (enough : Enough (lent_of table scratch walk)) (z : scratch' ≡ replicate (length scratch) 0) where
  abbrev lent : Lent
  lent = lent_of table scratch walk

  abbrev term : List ℕ
  term = take run.told.cells table

  pub open_refused : (start : List ℕ) (r : Refusal) → FirstNo (open_questions m run.told.state run.told.openings start) r → OpenAsked m run run start table table scratch scratch' walk walk' (Err r)
  open_refused start r n =
      let first = inr (enough, n) in
      record { called = refused_called m run table (opening start lent) r first; cleared = past_zeros scratch scratch' walk walk' r (open_past m (chain_of run table) r lent enough start first) z }

  pub open_accepted : (run' : Run C G) (start table' : List ℕ) → AllYes (open_questions m run.told.state run.told.openings start) → Moves run run' Open (run.told.openings + 1) (length start) 0 → table' ≡ laid start table → OpenAsked m run run' start table table' scratch scratch' walk walk' (Ok (record { number = run'.told.openings }))
  open_accepted run' start table' y v put =
      record {
        called = subst (λ u. Called m run run' table u (opening start lent) (Ok (Opened run'.told.openings))) (sym put) (opened_called m run run' start table lent (enough, y) v);
        cleared = accepted_zeros scratch scratch' walk walk' (Opened run'.told.openings) z;
      }

  pub step_refused : (s : Step) (space : List ℕ) (r : Refusal) → StepAnswered m term s run.told.state space (Err r) → StepAsked m run run s table table scratch scratch' walk walk' (Err r)
  step_refused s space r n =
      let first = inr (enough, n) in
      record { called = refused_called m run table (stepping s lent) r first; cleared = past_zeros scratch scratch' walk walk' r (stepping_past m (chain_of run table) r lent enough s first) z }

  pub step_accepted : (run' : Run C G) (s : Step) (space table' : List ℕ) (next : State) (n : ℕ) → StepAnswered m term s run.told.state space (Ok (next, n)) → Moves run run' run.told.state run.told.openings n (min (run.told.steps + 1) 4294967295) → length (take n space) ≡ n → table' ≡ laid (take n space) table → StepAsked m run run' s table table' scratch scratch' walk walk' (Ok tt)
  step_accepted run' s space table' next n y v long put =
      record {
        called = subst (λ u. Called m run run' table u (stepping s lent) (Ok Stepped)) (sym put) (stepped_called m run run' s (take n space) table lent n long (enough, (y.1, (y.2, y.3.yes))) v y.3);
        cleared = accepted_zeros scratch scratch' walk walk' Stepped z;
      }

  pub settle_refused : (ticket : Ticket) (claim : List ℕ) (r : Refusal) → FirstNo (settle_questions m run.told.state ticket.number run.told.openings term claim) r → SettleAsked m run run ticket claim table scratch scratch' walk walk' (Err (r, ticket))
  settle_refused ticket claim r n =
      let first = inr (enough, n) in
      record {
        called = refused_called m run table (settling ticket.number claim lent) r first;
        cleared = past_zeros scratch scratch' walk walk' r (settling_past m (chain_of run table) r lent enough ticket.number claim first) z;
        ticket_back = refl;
      }

  pub settle_accepted : (run' : Run C G) (ticket : Ticket) (claim : List ℕ) (v : Settlement) → AllYes (settle_questions m run.told.state ticket.number run.told.openings term claim) → Moves run run' Idle run.told.openings run.told.cells run.told.steps → Compared claim term v → SettleAsked m run run' ticket claim table scratch scratch' walk walk' (Ok v)
  settle_accepted run' ticket claim v y w k =
      record {
        called = settled_called m run run' ticket.number claim table lent v (enough, y) w k;
        cleared = accepted_zeros scratch scratch' walk walk' (Settled v) z;
        ticket_back = tt;
      }

-- withdrawal is handed no memory
module _ {C : Type 0} {G : Ghosts C} (m : Meaning) (run : Run C G) (ticket : Ticket) where
  pub withdraw_refused : (r : Refusal) → FirstNo (withdraw_questions run.told.state ticket.number run.told.openings) r → WithdrawAsked m run run ticket (Err (r, ticket))
  withdraw_refused r n =
      record { called = λ table. refused_called m run table (withdrawing ticket.number) r n; ticket_back = refl }
