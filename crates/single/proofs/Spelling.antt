-- The cells that bytes spell, and a wrong cell among the first of them. Assumes nothing.
use Rattle.std.proofs.Common.{◌≡◌, ℕ, zero, suc, ◌+◌, ◌*◌, ◌/◌, ◌^◌, ◌<◌, ◌≤◌, Bool, true, false, ltb, List, [], ◌∷◌, ◌++◌, length, get_or, take, drop, Some, Ok, Err, sym, refl, ap, ◌∙◌, subst, inl, inr, append_assoc, arith, length-append, length-drop, take-append-drop}
use Rattle.std.proofs.lemmas.List.{take-append-le, get_or-drop, get_or_append_left, length-take-le}
use Rattle.std.proofs.lemmas.Bool.Decides.{nat_tests}
use Rattle.terms.specs.Terms.{Laid}
use Rattle.terms.specs.Cells.{payload, Variable, Fields}
use Rattle.terms.specs.Layout.{parents, walked, binders, Wrong, fields, far, deep, many, past, Broken}
use Rattle.terms.proofs.Walks.{laid_right}
use Rattle.cell_bytes.specs.Spelling.{spell, spell_cell, CellsRead}
use Rattle.cell_bytes.proofs.Words.{word, spell_word, eight, all-++}
use Rattle.layout.specs.Answers.{Answered}
use Rattle.layout.specs.declared.Fault.{Fault}
use Rattle.layout.specs.declared.Fault.TheVariants.{Memory, Cell}
use Rattle.single.specs.Verdicts.{Spells, Bad, TermJudged}

pub spell-++ : (xs ys : List ℕ) → spell spell_cell (xs ++ ys) ≡ spell spell_cell xs ++ spell spell_cell ys
spell-++ [] ys = refl
spell-++ (x ∷ xs) ys = ap (λ l. spell_cell x ++ l) (spell-++ xs ys) ∙ sym (append_assoc (spell_cell x) (spell spell_cell xs) (spell spell_cell ys))

-- every number of a list fits
abbrev pub Fit : ℕ → List ℕ → Type 0
Fit m xs = (i : ℕ) → get_or xs i 0 < m

-- eight bytes make a cell
module _ (bytes : List ℕ) (f : Fit 256 bytes) (l : 8 ≤ length bytes) where
  abbrev first_cell : ℕ
  first_cell = word (get_or bytes 0 0) (get_or bytes 1 0) (get_or bytes 2 0) (get_or bytes 3 0) (get_or bytes 4 0) (get_or bytes 5 0) (get_or bytes 6 0) (get_or bytes 7 0)

  first_fits : first_cell < 2 ^ 64
  first_fits = omega (arith, f 0, f 1, f 2, f 3, f 4, f 5, f 6, f 7)

  first_spelt : spell_cell first_cell ≡ take 8 bytes
  first_spelt = spell_word _ _ _ _ _ _ _ _ (f 0) (f 1) (f 2) (f 3) (f 4) (f 5) (f 6) (f 7) ∙ sym (eight bytes 0 l)

-- any bytes spell some cells, with fewer than eight bytes left
pub spelling : (n : ℕ) (bytes : List ℕ) → length bytes ≤ n → Fit 256 bytes → (cells rest : List ℕ) × Spells bytes cells rest
spelling zero bytes h f = ([], bytes, record { words = tt; spelt = refl; short = omega arith })
spelling (suc n) bytes h f =
    go (length bytes / 8) refl (λ l. spelling n (drop 8 bytes) (omega (arith, length-drop 8 bytes)) (λ i. subst (λ y. y < 256) (sym (get_or-drop 8 bytes i 0)) (f (8 + i))))
  where
    go : (k : ℕ) → length bytes / 8 ≡ k → (8 ≤ length bytes → (cells rest : List ℕ) × Spells (drop 8 bytes) cells rest) → (cells rest : List ℕ) × Spells bytes cells rest
    go zero e more = ([], bytes, record { words = tt; spelt = refl; short = omega arith })
    go (suc k) e more =
        let l : 8 ≤ length bytes = omega arith in
        let x = first_cell bytes f l in
        let m = more l in
        let s = m.2 in (
          x ∷ m.0,
          m.1,
          record {
            words = (first_fits bytes f l, s.words);
            spelt = sym (take-append-drop 8 bytes) ∙ ap (λ l. l ++ drop 8 bytes) (sym (first_spelt bytes f l)) ∙ ap (λ l. spell_cell x ++ l) s.spelt ∙ sym (append_assoc (spell_cell x) (spell spell_cell m.0) m.1);
            short = s.short;
          },
        )

pub spell_length : (xs : List ℕ) → length (spell spell_cell xs) ≡ 8 * length xs
spell_length [] = refl
spell_length (x ∷ xs) = omega (arith, spell_length xs, length-append (spell_cell x) (spell spell_cell xs))

-- A wrong cell is wrong whatever follows, and so is the first one.
module _ (xs ys : List ℕ) (i : ℕ) (h : i < length xs) where
  same_cell : get_or (xs ++ ys) i 0 ≡ get_or xs i 0
  same_cell = get_or_append_left xs ys 0 i h

  same_parents : parents (xs ++ ys) i ≡ parents xs i
  same_parents = ap (walked (Some [])) (take-append-le i xs ys (omega arith))

  pub wrong_more : Wrong xs i → Wrong (xs ++ ys) i
  wrong_more (fields f) = fields (λ g. f (subst Fields same_cell g))
  wrong_more (far up e v l) = far up (same_parents ∙ e) (subst Variable (sym same_cell) v) (subst (λ c. binders up + 1024 ≤ payload c) (sym same_cell) l)
  wrong_more (deep up e l) = deep up (same_parents ∙ e) l
  wrong_more (many e) = many e
  wrong_more (past e) = past (same_parents ∙ e)

  pub wrong_less : Wrong (xs ++ ys) i → Wrong xs i
  wrong_less (fields f) = fields (λ g. f (subst Fields (sym same_cell) g))
  wrong_less (far up e v l) = far up (sym same_parents ∙ e) (subst Variable same_cell v) (subst (λ c. binders up + 1024 ≤ payload c) same_cell l)
  wrong_less (deep up e l) = deep up (sym same_parents ∙ e) l
  wrong_less (many e) = many e
  wrong_less (past e) = past (sym same_parents ∙ e)

pub broken_more : (xs ys : List ℕ) (i : ℕ) → i < length xs → Broken xs i → Broken (xs ++ ys) i
broken_more xs ys i h b =
    let len = length-append xs ys in
    let w = wrong_more xs ys i h (b.first h) in
    record {
      within = omega arith;
      before = λ j k z. b.before j k (wrong_less xs ys j (omega arith) z);
      first = λ k. w;
      broken = λ lay. laid_right (xs ++ ys) i lay (omega arith) w;
    }

bad_of : (cells rest : List ℕ) (i : ℕ) → Broken cells i → Bad cells rest i
bad_of cells [] i b = b
bad_of cells (x ∷ xs) i b = inl b

left_over : (cells rest : List ℕ) → 1 ≤ length rest → Laid cells → Bad cells rest (length cells)
left_over cells [] h lay = absurd (omega arith)
left_over cells (x ∷ xs) h lay = inr (lay, refl)

empty_list : (l : List ℕ) → length l ≡ 0 → l ≡ []
empty_list [] h = refl
empty_list (x ∷ xs) h = absurd (omega arith)

-- What was read of the bytes, and what the layout judge says of that.
module _ (bytes old new : List ℕ) (n : ℕ) (read : CellsRead bytes old new n) (fit : Fit 256 bytes) (room : 2049 ≤ length old) (kept : length new ≡ length old) where
  pub count_is : length (take n new) ≡ n
  count_is = length-take-le n new (omega (arith, read.count))

  -- fewer than 2,049 were read: all the whole cells there are
  rest_spelt : n < 2049 → Spells bytes (take n new) (drop (8 * n) bytes)
  rest_spelt h =
      record {
        words = read.words;
        spelt = sym (take-append-drop (8 * n) bytes) ∙ ap (λ l. l ++ drop (8 * n) bytes) (sym read.spelt);
        short = omega (arith, read.count, length-drop (8 * n) bytes);
      }

  pub part_left : Laid (take n new) → (length bytes ≡ 8 * n → ⊥) → (cells rest : List ℕ) × Spells bytes cells rest × Bad cells rest n
  part_left lay h =
      let few : n < 2049 = omega (arith, lay.few, count_is) in
      let some : 1 ≤ length (drop (8 * n) bytes) = omega (arith, read.count, length-drop (8 * n) bytes) in
      (take n new, drop (8 * n) bytes, rest_spelt few, subst (Bad (take n new) (drop (8 * n) bytes)) count_is (left_over (take n new) (drop (8 * n) bytes) some lay))

  pub first_wrong : (i : ℕ) → Broken (take n new) i → (cells rest : List ℕ) × Spells bytes cells rest × Bad cells rest i
  first_wrong i b = go (ltb i n) refl
    where
      go : (q : Bool) → ltb i n ≡ q → (cells rest : List ℕ) × Spells bytes cells rest × Bad cells rest i
      go true e =
          let l : i < length (take n new) = grind (arith, nat_tests, count_is) in
          let m = spelling (length bytes) (drop (8 * n) bytes) (omega (arith, length-drop (8 * n) bytes)) (λ k. subst (λ y. y < 256) (sym (get_or-drop (8 * n) bytes k 0)) (fit (8 * n + k))) in
          let s = m.2 in
          let sp = spell-++ (take n new) m.0 in (
            take n new ++ m.0,
            m.1,
            record {
              words = all-++ (λ c. c < 2 ^ 64) (take n new) m.0 read.words s.words;
              spelt = sym (take-append-drop (8 * n) bytes) ∙ ap (λ l. l ++ drop (8 * n) bytes) (sym read.spelt) ∙ ap (λ l. spell spell_cell (take n new) ++ l) s.spelt ∙ sym (append_assoc (spell spell_cell (take n new)) (spell spell_cell m.0) m.1) ∙ ap (λ l. l ++ m.1) (sym sp);
              short = s.short;
            },
            bad_of (take n new ++ m.0) m.1 i (broken_more (take n new) m.0 i l b),
          )
      go false e =
          let ge : n ≤ i = grind (arith, nat_tests) in
          let few : (2048 < n → ⊥) = λ k. b.before 2048 (omega arith) (many refl) in
          (take n new, drop (8 * n) bytes, rest_spelt (omega arith), bad_of (take n new) (drop (8 * n) bytes) i b)

  -- what the layout judge refuses is refused
  pub refused : (w : ℕ) (f : Fault) → Answered w (take n new) (Err f) → TermJudged (length old) w bytes (Err f)
  refused w Memory a = inr a
  refused w (Cell i) a = (room, a.0, first_wrong i a.1)

  -- bytes left over behind a term
  pub left : (w d m : ℕ) → Answered w (take n new) (Ok (m, d)) → (length bytes ≡ 8 * n → ⊥) → TermJudged (length old) w bytes (Err (Cell n))
  left w d m a h = (room, a.0, part_left a.1.layout h)
