-- Calls made in a loop on a fresh run: one more, all of them, and some of them. Assumes nothing.
use Rattle.std.proofs.Common.{◌≡◌, ℕ, ◌+◌, ◌<◌, ◌≤◌, List, [], ◌∷◌, ◌++◌, map, length, get_or, take, drop, replicate, sym, refl, ap, ◌∙◌, subst, arith}
use Rattle.calculus.specs.declared.Calculus.{Ghosts}
use lib.ListN.{length-replicate}
use Rattle.std.proofs.lemmas.List.{length-take-le, map_more, map-append, take-append-drop, take_all}
use Rattle.layout.specs.declared.Walk.{Walk}
use Rattle.calculus.specs.Meaning.{Meaning}
use Rattle.calculus.specs.Laws.{Laws}
use Rattle.runs.specs.Chain.{Chain, fresh, told}
use Rattle.runs.specs.Theorem.{Replayed, Part}
use Rattle.runs.specs.Calls.{chain_of, Called, event_of, events_of, lent_of}
use Rattle.runs.specs.Performed.{Performed}
use Rattle.runs.specs.declared.run.Run.{Run}
use Rattle.runs.specs.declared.call.Call.{Call}
use Rattle.runs.specs.declared.call.Lent.{Lent}
use Rattle.runs.specs.Answers.{Answer}
use Rattle.runs.specs.declared.call.Told.{Told}
use Rattle.runs.specs.declared.call.Said.{Said}
use Rattle.runs.proofs.Made.{Made, made_more, from_calls}

-- a fresh run tells no cells
no_cells : {C : Type 0} {G : Ghosts C} (run : Run C G) → ((table : List ℕ) → chain_of run table ≡ fresh) → run.told.cells ≡ 0
no_cells run new =
    let table = replicate run.told.cells 0 in
    sym (length-take-le run.told.cells table (omega (arith, length-replicate {A = ℕ} run.told.cells 0))) ∙ ap (λ (c : Chain). length c.end) (new table)

-- What the loop has come to on a fresh run: so many calls were made, and this was said to each.
pub record Gone {C : Type 0} {G : Ghosts C} (mean : C → Meaning) (run : Run C G) (table scratch : List ℕ) (walk : List Walk) (calls : List Call) (i : ℕ) (said : List Said) (run₁ : Run C G) (table₁ : List ℕ) : Type 0 where
  pub calculus : run₁.calculus ≡ run.calculus
  pub fits : run₁.told.cells ≤ length table₁
  pub made : Made (mean run.calculus) run table (map (event_of (lent_of table scratch walk)) (take i calls)) said run₁ table₁

pub gone_none : {C : Type 0} {G : Ghosts C} (mean : C → Meaning) (run : Run C G) (table scratch : List ℕ) (walk : List Walk) (calls : List Call) (said : List Said) → ((u : List ℕ) → chain_of run u ≡ fresh) → said ≡ [] → Gone mean run table scratch walk calls 0 said run table
gone_none mean run table scratch walk calls said new none =
    let cells = no_cells run new in
    record { calculus = refl; fits = omega (arith, cells); made = subst (λ xs. Made (mean run.calculus) run table [] xs run table) (sym none) (refl, refl) }

-- one call more
module _ {C : Type 0} {G : Ghosts C} (mean : C → Meaning) (run run₁ run₂ : Run C G) (table table₁ table₂ scratch scratch₁ : List ℕ) (walk walk₁ : List Walk) (calls : List Call) (i : ℕ) (d : Call) (said : List Said) (answer : Answer) (tells : Told) (g : Gone mean run table scratch walk calls i said run₁ table₁) where
  pub gone_more : length table₁ ≡ length table → length scratch₁ ≡ length scratch → length walk₁ ≡ length walk → length table₂ ≡ length table₁ → i < length calls → Performed (mean run₁.calculus) run₁ run₂ table₁ table₂ (event_of (lent_of table₁ scratch₁ walk₁) (get_or calls i d)) answer → ((u : List ℕ) → run₂.told.cells ≤ length u → tells ≡ told (chain_of run₂ u)) → Gone mean run table scratch walk calls (i + 1) (said ++ (record { answer = answer; tells = tells } ∷ [])) run₂ table₂
  gone_more t-kept s-kept w_kept kept within p tell =
      let f = event_of (lent_of table scratch walk) in
      let e = get_or calls i d in
      let x : Said = record { answer = answer; tells = tells } in
      let lents : lent_of table₁ scratch₁ walk₁ ≡ lent_of table scratch walk = λ j. record { table = t-kept j; scratch = s-kept j; walk = w_kept j } in
      let here = subst (λ (l : Lent). Called (mean run₁.calculus) run₁ run₂ table₁ table₂ (event_of l e) answer) lents p.called in
      let called = subst (λ k. Called (mean k) run₁ run₂ table₁ table₂ (f e) answer) g.calculus here in
      let fits : run₂.told.cells ≤ length table₂ = omega (arith, p.fits g.fits, kept) in
      let events : map f (take i calls) ++ (f e ∷ []) ≡ map f (take (i + 1) calls) = sym (map_more f calls i d within) in
      record {
        calculus = p.called.calculus ∙ g.calculus;
        fits = fits;
        made = subst (λ es. Made (mean run.calculus) run table es (said ++ (x ∷ [])) run₂ table₂) events (made_more (mean run.calculus) run run₁ run₂ table table₁ table₂ (map f (take i calls)) said (f e) x g.made called (tell table₂ fits));
      }

-- the theorem at the end of the calls, and where the heap ends before
module _ {C : Type 0} {G : Ghosts C} (mean : C → Meaning) (laws : (k : C) → Laws (mean k)) (calculus : C) (run run₁ : Run C G) (table table₁ scratch : List ℕ) (walk : List Walk) (calls : List Call) (i : ℕ) (xs : List Said) (same : run.calculus ≡ calculus) (new : chain_of run table ≡ fresh) (g : Gone mean run table scratch walk calls i xs run₁ table₁) where
  some : Replayed (mean calculus) (map (event_of (lent_of table scratch walk)) (take i calls)) xs table table₁
  some =
      from_calls (mean calculus) (laws calculus) run run₁ table table₁ (map (event_of (lent_of table scratch walk)) (take i calls)) xs new (subst (λ k. Made (mean k) run table (map (event_of (lent_of table scratch walk)) (take i calls)) xs run₁ table₁) same g.made)

  pub all_made : length calls ≤ i → Replayed (mean calculus) (events_of table scratch walk calls) xs table table₁
  all_made end =
      subst (λ l. Replayed (mean calculus) (map (event_of (lent_of table scratch walk)) l) xs table table₁) (take_all i calls end) some

  pub part_made : Part (mean calculus) (events_of table scratch walk calls) table table₁
  part_made =
      let f = event_of (lent_of table scratch walk) in
      record {
        made = map f (take i calls);
        unmade = map f (drop i calls);
        calls_are = ap (map f) (sym (take-append-drop i calls)) ∙ map-append f (take i calls) (drop i calls);
        said = xs;
        replayed = some;
      }
