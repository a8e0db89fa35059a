-- A call that is handed the front of a table does to the whole table what it does to the front. Assumes nothing.
use Rattle.std.proofs.Common.{◌≡◌, ℕ, ◌+◌, ◌-◌, ◌≤◌, ◌⊎◌, List, [], ◌∷◌, ◌++◌, length, take, drop, replicate, sym, refl, ap, ◌∙◌, subst, inl, inr, append_assoc, arith, Ok, Err}
use Rattle.calculus.specs.declared.Calculus.{Ghosts}
use lib.ListN.{length-replicate}
use Rattle.std.proofs.lemmas.List.{take-append-drop, take-take, take-append-le, drop-append-le, length-take-le}
use Rattle.std.proofs.lemmas.Bool.{cases_lt}
use Rattle.layout.specs.declared.Walk.{Walk}
use Rattle.calculus.specs.Meaning.{Meaning}
use Rattle.runs.specs.Questions.{AllYes, FirstNo}
use Rattle.runs.specs.Steps.{Step}
use Rattle.runs.specs.Chain.{Chain, Event, opening, stepping, settling, withdrawing, questions, held, Enough, TurnBy, accepted, refused}
use Rattle.runs.specs.Theorem.{laid}
use Rattle.runs.specs.Calls.{chain_of, table_after, Called, handed, lent_of}
use Rattle.runs.specs.Turning.{chain_at}
use Rattle.runs.specs.Performed.{Performed}
use Rattle.runs.specs.declared.run.Run.{Run}
use Rattle.runs.specs.declared.call.Lent.{Lent}
use Rattle.runs.specs.Answers.{Answer}
use Rattle.runs.specs.declared.call.Done.TheVariants.{Opened, Stepped, Settled, Withdrawn}
use Rattle.runs.specs.declared.refusal.Refusal.{Refusal}
use Rattle.runs.specs.declared.refusal.Refusal.TheVariants as no

-- The call is asked question 1 first, of this memory.
pub record First (m : Meaning) (e : Event) (lent : Lent) : Type 0 where
  pub yes : (c : Chain) → AllYes (questions m c (held m c ∷ []) e) → Enough lent
  pub tells : (c : Chain) (r : Refusal) → (Enough lent → ⊥) → FirstNo (questions m c (held m c ∷ []) e) r → r ≡ no.Memory
  pub refuses : (c : Chain) → (Enough lent → ⊥) → FirstNo (questions m c (held m c ∷ []) e) no.Memory

tell : {Q : Type 0} (lent : Lent) (r : Refusal) → (Enough lent → ⊥) → ((Enough lent → ⊥) × (r ≡ no.Memory)) ⊎ (Enough lent × Q) → r ≡ no.Memory
tell lent r little (inl n) = n.1
tell lent r little (inr n) = absurd (little n.0)

module _ (m : Meaning) (lent : Lent) where
  pub opening_first : (start : List ℕ) → First m (opening start lent) lent
  opening_first start = record { yes = λ c y. y.0; tells = λ c r little n. tell lent r little n; refuses = λ c little. inl (little, refl) }

  pub stepping_first : (s : Step) → First m (stepping s lent) lent
  stepping_first s = record { yes = λ c y. y.0; tells = λ c r little n. tell lent r little n; refuses = λ c little. inl (little, refl) }

  pub settling_first : (ticket : ℕ) (claim : List ℕ) → First m (settling ticket claim lent) lent
  settling_first ticket claim =
      record { yes = λ c y. y.0; tells = λ c r little n. tell lent r little n; refuses = λ c little. inl (little, refl) }

module _ {C : Type 0} {G : Ghosts C} (m : Meaning) (run run' : Run C G) (table part : List ℕ) (t : ℕ) (within : t ≤ length table) (long : length part ≡ t) (e : Event) (lent : Lent) (t-is : lent.table ≡ t) (first : First m e lent) (a : Answer) (c : Called m run run' (take t table) part e a) where
  abbrev all : List ℕ
  all = part ++ drop t table

  module _ (enough : 2048 ≤ t) where
    old : take run.told.cells (take t table) ≡ take run.told.cells table
    old = take-take run.told.cells t table (omega (arith, run.few))

    new : take run'.told.cells part ≡ take run'.told.cells all
    new = sym (take-append-le run'.told.cells part (drop t table) (omega (arith, run'.few)))

    past : drop 2048 (take t table) ++ drop t table ≡ drop 2048 table
    past =
        let front : 2048 ≤ length (take t table) = omega (arith, length-take-le t table within) in
        sym (drop-append-le 2048 (take t table) (drop t table) front) ∙ ap (drop 2048) (take-append-drop t table)

    put : (end : List ℕ) → laid end (take t table) ++ drop t table ≡ laid end table
    put end =
        let zeros = replicate (2048 - length end) 0 in
        let rest = drop 2048 (take t table) in
        append_assoc end (zeros ++ rest) (drop t table) ∙ ap (λ l. end ++ l) (append_assoc zeros rest (drop t table) ∙ ap (λ l. zeros ++ l) past)

    after : (b : Answer) → part ≡ table_after b (take run'.told.cells part) (take t table) → all ≡ table_after b (take run'.told.cells all) table
    after (Ok (Opened n)) p = ap (λ l. l ++ drop t table) p ∙ put (take run'.told.cells part) ∙ ap (λ l. laid l table) new
    after (Ok Stepped) p = ap (λ l. l ++ drop t table) p ∙ put (take run'.told.cells part) ∙ ap (λ l. laid l table) new
    after (Ok (Settled v)) p = ap (λ l. l ++ drop t table) p ∙ take-append-drop t table
    after (Ok Withdrawn) p = ap (λ l. l ++ drop t table) p ∙ take-append-drop t table
    after (Err r) p = ap (λ l. l ++ drop t table) p ∙ take-append-drop t table

    wide : Called m run run' table all e a
    wide =
        let there = subst (λ l. TurnBy m (held m (chain_of run (take t table)) ∷ []) (chain_of run (take t table)) e a (chain_at run' l)) new c.turn in
        record {
          calculus = c.calculus;
          turn = subst (λ l. TurnBy m (held m (chain_at run l) ∷ []) (chain_at run l) e a (chain_of run' all)) old there;
          refused = c.refused;
          table_is = after a c.table_is;
        }

  module _ (little : Enough lent → ⊥) where
    narrow_by : TurnBy m (held m (chain_of run (take t table)) ∷ []) (chain_of run (take t table)) e a (chain_of run' part) → Called m run run' table all e a
    narrow_by (accepted y p) = absurd (little (first.yes (chain_of run (take t table)) y))
    narrow_by (refused r f g h) =
        let kept : part ≡ take t table = c.table_is ∙ ap (λ b. table_after b (take run'.told.cells part) (take t table)) g in
        let whole : all ≡ table = ap (λ l. l ++ drop t table) kept ∙ take-append-drop t table in
        let cells = c.refused r g in
        let told = first.tells (chain_of run (take t table)) r little f in
        let same : chain_of run' all ≡ chain_of run table = λ i. record { state = (h i).state; openings = (h i).openings; end = (ap (λ n. take n all) cells ∙ ap (take run.told.cells) whole) i; steps = (h i).steps } in
        record {
          calculus = c.calculus;
          turn = refused r (subst (FirstNo (questions m (chain_of run table) (held m (chain_of run table) ∷ []) e)) (sym told) (first.refuses (chain_of run table) little)) g same;
          refused = c.refused;
          table_is = whole ∙ sym (ap (λ b. table_after b (take run'.told.cells all) table) g);
        }

  widen : Called m run run' table all e a
  widen = elim (cases_lt t 2048) [ inl h ↦ narrow_by (λ n. omega (arith, n.table, t-is, h)) c.turn | inr h ↦ wide h ]

-- the run's cells stay within the table: an accepted call was handed 2,048 cells of it
module _ {C : Type 0} {G : Ghosts C} (m : Meaning) (run run' : Run C G) (table table' : List ℕ) (e : Event) (lent : Lent) (first : First m e lent) (a : Answer) (c : Called m run run' table table' e a) where
  cells_by : TurnBy m (held m (chain_of run table) ∷ []) (chain_of run table) e a (chain_of run' table') → lent.table ≤ length table → run.told.cells ≤ length table → run'.told.cells ≤ length table
  cells_by (accepted y p) l h = omega (arith, (first.yes (chain_of run table) y).table, run'.few)
  cells_by (refused r f g k) l h = omega (arith, c.refused r g)

  cells_fit : lent.table ≤ length table → run.told.cells ≤ length table → run'.told.cells ≤ length table
  cells_fit = cells_by c.turn

-- A call over the memory that it is handed: so many cells and records from the front.
module _ {C : Type 0} {G : Ghosts C} (m : Meaning) (run run' : Run C G) (table part scratch : List ℕ) (walk : List Walk) (lent l : Lent) (is : l ≡ handed (lent_of table scratch walk) lent) (long : length part ≡ length (take l.table table)) (call : Lent → Event) (first : (l : Lent) → First m (call l) l) (a : Answer) (c : Called m run run' (take l.table table) part (call (lent_of (take l.table table) (take l.scratch scratch) (take l.walk walk))) a) where
  abbrev given : Lent
  given = handed (lent_of table scratch walk) lent

  t-is : l.table ≡ given.table
  t-is = ap (λ (x : Lent). x.table) is

  within : l.table ≤ length table
  within = omega (arith, t-is)

  -- that is what it is handed
  lents : lent_of (take l.table table) (take l.scratch scratch) (take l.walk walk) ≡ given
  lents =
      let s-is = ap (λ (x : Lent). x.scratch) is in
      let w-is = ap (λ (x : Lent). x.walk) is in
      λ i. record {
        table = (length-take-le l.table table within ∙ t-is) i;
        scratch = (length-take-le l.scratch scratch (omega (arith, s-is)) ∙ s-is) i;
        walk = (length-take-le l.walk walk (omega (arith, w-is)) ∙ w-is) i;
      }

  pub handed_performed : Performed m run run' table (part ++ drop l.table table) (call given) a
  handed_performed =
      let all = widen m run run' table part l.table within (long ∙ length-take-le l.table table within) (call given) given (sym t-is) (first given) a (subst (λ x. Called m run run' (take l.table table) part (call x) a) lents c) in
      record { called = all; fits = cells_fit m run run' table (part ++ drop l.table table) (call given) given (first given) a all (omega arith) }

-- the same where the call only reads the table
pub reading_performed : {C : Type 0} {G : Ghosts C} (m : Meaning) (run run' : Run C G) (table scratch : List ℕ) (walk : List Walk) (lent l : Lent) → l ≡ handed (lent_of table scratch walk) lent → (call : Lent → Event) → ((l : Lent) → First m (call l) l) → (a : Answer) → Called m run run' (take l.table table) (take l.table table) (call (lent_of (take l.table table) (take l.scratch scratch) (take l.walk walk))) a → Performed m run run' table table (call (handed (lent_of table scratch walk) lent)) a
reading_performed m run run' table scratch walk lent l is call first a c =
    subst (λ u. Performed m run run' table u (call (handed (lent_of table scratch walk) lent)) a) (take-append-drop l.table table) (handed_performed m run run' table (take l.table table) scratch walk lent l is refl call first a c)

-- a table that holds the cells of both runs
abbrev long : {C : Type 0} {G : Ghosts C} → Run C G → Run C G → List ℕ
long run run' = replicate (run.told.cells + run'.told.cells) 0

count : {C : Type 0} {G : Ghosts C} (run run' : Run C G) → length (take run'.told.cells (long run run')) ≡ length (take run.told.cells (long run run')) → run'.told.cells ≡ run.told.cells
count run run' e =
    let n = length-replicate {A = ℕ} (run.told.cells + run'.told.cells) 0 in
    sym (length-take-le run'.told.cells (long run run') (omega (arith, n))) ∙ e ∙ length-take-le run.told.cells (long run run') (omega (arith, n))

-- a withdrawal, which is as it is on every table
module _ {C : Type 0} {G : Ghosts C} (m : Meaning) (run run' : Run C G) (number : ℕ) (a : Answer) (c : (table : List ℕ) → Called m run run' table table (withdrawing number) a) where
  same_cells : TurnBy m (held m (chain_of run (long run run')) ∷ []) (chain_of run (long run run')) (withdrawing number) a (chain_of run' (long run run')) → run'.told.cells ≡ run.told.cells
  same_cells (accepted y p) = count run run' (ap (λ (d : Chain). length d.end) p.1)
  same_cells (refused r f g h) = (c (long run run')).refused r g

  pub withdrawal_performed : (table : List ℕ) → Performed m run run' table table (withdrawing number) a
  withdrawal_performed table = record { called = c table; fits = λ h. omega (arith, same_cells (c (long run run')).turn, h) }
