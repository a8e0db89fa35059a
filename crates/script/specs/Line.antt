-- What a line of a script says.
use Rattle.std.specs.Prelude.{◌≡◌, ℕ, ◌≤◌, ◌⊎◌, ⊤, List, ◌++◌, length, drop, codes, Result, Ok, Err}
use Rattle.std.specs.Result.{OkIff}
use Rattle.script.specs.Part.{behind}
use Rattle.script.specs.Words.{Words, word, ReadsIf, IsNumber, number_of, AreCells, cells_of, IsPlace, entries_of}
use Rattle.script.specs.declared.fault.Bad.{Bad}
use Rattle.script.specs.declared.fault.Bad.TheVariants.{Text}
use Rattle.script.specs.declared.line.Line.{Line}
use Rattle.script.specs.declared.line.Line.TheVariants.{Memory, Open, Step, Settle, Withdraw, Tell, Table}

-- this many words, or at least so many, and the first is the name
abbrev pub HasForm : Words → List ℕ → ℕ → Type 0
HasForm words name count = (length words ≡ count) × (word words 0 ≡ name)

abbrev pub Begins : Words → List ℕ → ℕ → Type 0
Begins words name count = (count ≤ length words) × (word words 0 ≡ name)

-- the words, the cells and the place entries before and after them, and what they give
module _ (words : Words) (cells cells_after entries entries_after : List ℕ) (r : Result Line Bad) where
  -- no cells and no entries are put
  abbrev pub PutsNone : Type 0
  PutsNone = (cells_after ≡ cells) × (entries_after ≡ entries)

  abbrev pub ReadsMemory : Type 0
  ReadsMemory = HasForm words (codes "memory") 4 → PutsNone × OkIff r
      (IsNumber 4096 (word words 1) × IsNumber 4096 (word words 2) × IsNumber 4096 (word words 3))
      (Memory (number_of (word words 1)) (number_of (word words 2)) (number_of (word words 3)))

  abbrev pub ReadsOpen : Type 0
  ReadsOpen = Begins words (codes "open") 1 → let term = cells_of (drop 1 words) in ReadsIf r
      (AreCells (drop 1 words))
      (λ line. (line ≡ Open (behind cells term)) × (cells_after ≡ cells ++ term) × (entries_after ≡ entries))

  abbrev pub ReadsStep : Type 0
  ReadsStep = HasForm words (codes "step") 5 → let place = entries_of (word words 3) in let inner = entries_of (word words 4) in ReadsIf r
      (IsNumber 255 (word words 1) × IsNumber 255 (word words 2) × IsPlace (word words 3) × IsPlace (word words 4))
      (λ line. (line ≡ Step (number_of (word words 1)) (number_of (word words 2)) (behind entries place) (behind (entries ++ place) inner))
      × (entries_after ≡ entries ++ place ++ inner) × (cells_after ≡ cells))

  abbrev pub ReadsSettle : Type 0
  ReadsSettle = Begins words (codes "settle") 2 → let claim = cells_of (drop 2 words) in ReadsIf r
      (IsNumber 65535 (word words 1) × AreCells (drop 2 words))
      (λ line. (line ≡ Settle (number_of (word words 1)) (behind cells claim)) × (cells_after ≡ cells ++ claim) × (entries_after ≡ entries))

  abbrev pub ReadsWithdraw : Type 0
  ReadsWithdraw = HasForm words (codes "withdraw") 2 → PutsNone × OkIff r (IsNumber 65535 (word words 1)) (Withdraw (number_of (word words 1)))

  abbrev pub ReadsTell : Type 0
  ReadsTell = HasForm words (codes "tell") 1 → PutsNone × (r ≡ Ok Tell)

  abbrev pub ReadsTable : Type 0
  ReadsTable = HasForm words (codes "table") 2 → PutsNone × OkIff r (IsNumber 4096 (word words 1)) (Table (number_of (word words 1)))

  -- no other line is one
  abbrev pub RefusesOthers : Type 0
  RefusesOthers = HasForm words (codes "memory") 4 ⊎ (Begins words (codes "open") 1 ⊎ (HasForm words (codes "step") 5
      ⊎ (Begins words (codes "settle") 2 ⊎ (HasForm words (codes "withdraw") 2 ⊎ (HasForm words (codes "tell") 1 ⊎ (HasForm words (codes "table") 2 ⊎ (r ≡ Err Text)))))))

-- what the words of a line give
pub record ReadsLine (words : Words) (cells cells_after entries entries_after : List ℕ) (r : Result Line Bad) : Type 0 where
  pub memory : ReadsMemory words cells cells_after entries entries_after r
  pub opening : ReadsOpen words cells cells_after entries entries_after r
  pub step : ReadsStep words cells cells_after entries entries_after r
  pub settle : ReadsSettle words cells cells_after entries entries_after r
  pub withdraw : ReadsWithdraw words cells cells_after entries entries_after r
  pub tell : ReadsTell words cells cells_after entries entries_after r
  pub table : ReadsTable words cells cells_after entries entries_after r
  pub others : RefusesOthers words cells cells_after entries entries_after r

-- a line that further cells may follow, and the line with them, which end there
abbrev pub TakesCells : Line → Type 0
TakesCells (Open term) = ⊤
TakesCells (Settle ticket claim) = ⊤
TakesCells line = ⊥

abbrev pub with_end : ℕ → Line → Line
with_end end (Open term) = Open (record term { end = end })
with_end end (Settle ticket claim) = Settle ticket (record claim { end = end })
with_end end line = line

-- what further words of the line give
abbrev pub GoesOn : Words → Line → List ℕ → List ℕ → Result Line Bad → Type 0
GoesOn words line cells cells_after r = ReadsIf r
    (TakesCells line × AreCells words)
    (λ longer. (longer ≡ with_end (length cells_after) line) × (cells_after ≡ cells ++ cells_of words))
