-- Steps that stand one after the other. Assumes nothing.
use Rattle.std.proofs.Common.{◌≡◌, ℕ, zero, suc, ◌+◌, ◌-◌, ◌<◌, List, [], ◌∷◌, ◌++◌, length, get_or, drop, replicate, sym, refl, ap, ◌∙◌, append_assoc, append-nil, arith, lit<, length-append}
use lib.ListN.{length-replicate}
use Rattle.std.proofs.lemmas.List.{drop_more}
use Rattle.terms.specs.Lists.{All}
use Rattle.cell_bytes.specs.Spelling.{spell}
use Rattle.cell_bytes.specs.Holding.{Holds, Lacking, LeftOver}
use Rattle.runs.specs.Steps.{Step}
use Rattle.records.specs.Records.{spell_step, Spelt, Steps}
use Rattle.records.specs.Reading.{Stands}

-- these bytes stand behind k steps
pub record Passed (bytes : List ℕ) (k : ℕ) (rest : List ℕ) : Type 0 where
  pub steps : List Step
  pub good : Steps k steps
  pub reads : bytes ≡ spell spell_step steps ++ rest

pub none_passed : (bytes : List ℕ) → Passed bytes 0 bytes
none_passed bytes = record { steps = []; good = (refl, tt); reads = refl }

spell-++ : (xs ys : List Step) → spell spell_step (xs ++ ys) ≡ spell spell_step xs ++ spell spell_step ys
spell-++ [] ys = refl
spell-++ (x ∷ xs) ys = ap (λ l. spell_step x ++ l) (spell-++ xs ys) ∙ sym (append_assoc (spell_step x) (spell spell_step xs) (spell spell_step ys))

all-++ : (xs ys : List Step) → All Spelt xs → All Spelt ys → All Spelt (xs ++ ys)
all-++ [] ys a b = b
all-++ (x ∷ xs) ys a b = (a.0, all-++ xs ys a.1 b)

-- one step more
pub one_passed : (bytes : List ℕ) (k : ℕ) (rest behind : List ℕ) (s : Step) → Passed bytes k rest → Stands rest s behind → Passed bytes (k + 1) behind
one_passed bytes k rest behind s p q =
    let e : spell spell_step (p.steps ++ s ∷ []) ≡ spell spell_step p.steps ++ spell_step s = spell-++ p.steps (s ∷ []) ∙ ap (λ l. spell spell_step p.steps ++ l) (append-nil (spell_step s)) in
    let n = p.good.0 in
    record {
      steps = p.steps ++ s ∷ [];
      good = (simp length-append (omega arith), all-++ p.steps (s ∷ []) p.good.1 (q.spelt, tt));
      reads = p.reads ∙ ap (λ l. spell spell_step p.steps ++ l) q.reads ∙ sym (append_assoc (spell spell_step p.steps) (spell_step s) behind) ∙ ap (λ l. l ++ behind) (sym e);
    }

-- a step of nothing
abbrev blank : Step
blank = record { rule = 0; place = []; argument = 0; inner = [] }

blank_spelt : Spelt blank
blank_spelt = record { rule = lit< tt; place = lit< tt; inner = lit< tt; argument = lit< tt; place_entries = tt; inner_entries = tt }

blanks_spelt : (n : ℕ) → All Spelt (replicate n blank)
blanks_spelt zero = tt
blanks_spelt (suc n) = (blank_spelt, blanks_spelt n)

-- the next one is cut short
pub next_lacks : (bytes : List ℕ) (n k : ℕ) (rest : List ℕ) (j : ℕ) → Passed bytes k rest → Lacking Spelt spell_step rest j → k < n → Lacking (Steps n) (spell spell_step) bytes (length bytes)
next_lacks bytes n k rest j p q h =
    let others = replicate (n - k - 1) blank in
    let z = spell spell_step others in
    let done = spell spell_step p.steps in
    let l = p.good.0 in
    record {
      it = p.steps ++ (q.it ∷ others);
      good = (simp (length-append, length-replicate) (omega arith), all-++ p.steps (q.it ∷ others) p.good.1 (q.good, blanks_spelt (n - k - 1)));
      byte = q.byte;
      more = q.more ++ z;
      begun = ap (λ b. b ++ (q.byte ∷ (q.more ++ z))) p.reads ∙ append_assoc done rest (q.byte ∷ (q.more ++ z)) ∙ ap (λ b. done ++ b) (sym (append_assoc rest (q.byte ∷ q.more) z) ∙ ap (λ b. b ++ z) q.begun) ∙ sym (spell-++ p.steps (q.it ∷ others));
      is = refl;
    }

-- all are there, and bytes are left over, or not
pub all_left : (bytes : List ℕ) (n : ℕ) (rest : List ℕ) (i : ℕ) → Passed bytes n rest → 0 < length rest → i ≡ length bytes - length rest → LeftOver (Steps n) (spell spell_step) bytes i
all_left bytes n rest i p h is =
    let long : length bytes ≡ length (spell spell_step p.steps ++ rest) = ap length p.reads in
    record { it = p.steps; good = p.good; byte = get_or rest 0 0; more = drop 1 rest; passed = p.reads ∙ ap (λ l. spell spell_step p.steps ++ l) (drop_more rest 0 0 h); is = omega (arith, simp length-append at long) }

pub all_held : (bytes : List ℕ) (n : ℕ) → Passed bytes n [] → (steps : List Step) × Holds (Steps n) (spell spell_step) bytes steps
all_held bytes n p = (p.steps, record { good = p.good; spelt = p.reads ∙ append-nil (spell spell_step p.steps) })
