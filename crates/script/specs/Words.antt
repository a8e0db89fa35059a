-- What words write.
use Rattle.std.specs.Prelude.{◌≡◌, ℕ, ◌≤◌, ◌⊎◌, Bool, false, ◌==◌, if◌then◌else◌, List, [], length, map, slice_index_or, bytes_eq, codes, Result, MatchResult, All}
use Rattle.std.specs.Borrow.{Bor}
use Rattle.std.specs.List.{slice_split}
use Rattle.std.specs.Str.Parse.{IsNumeral, AllDigits, digits_value, without_leading_plus}
use Rattle.script.specs.Part.{Puts}
use Rattle.script.specs.declared.fault.Bad.{Bad}
use Rattle.script.specs.declared.fault.Bad.TheVariants.{Memory}
use Rattle.script.specs.declared.part.Part.{Part}

-- a `&[&str]`
abbrev pub Words : Type 0
Words = List (Bor (List ℕ))

-- the text of word i, which is empty past the end
abbrev pub word : Words → ℕ → List ℕ
word words i = (slice_index_or words i (record { ref_ptr = (0, 0); now = [] })).now

-- what is read where the text is good; else the text is bad, or memory ran out
abbrev pub ReadsIf : {T : Type 0} → Result T Bad → Type 0 → (T → Type 0) → Type 0
ReadsIf r P Q = MatchResult r (λ x. P × Q x) (λ e. (e ≡ Memory) ⊎ (¬ P))

-- decimal digits, which a plus may lead, and the number that they write
abbrev pub number_of : List ℕ → ℕ
number_of text = digits_value 10 (without_leading_plus text)

abbrev pub IsNumber : ℕ → List ℕ → Type 0
IsNumber most text = IsNumeral 10 (without_leading_plus text) × (number_of text ≤ most)

-- 16 hexadecimal digits, and the cell that they write
abbrev pub IsCell : List ℕ → Type 0
IsCell text = (length text ≡ 16) × AllDigits 16 text

abbrev pub cell_of : List ℕ → ℕ
cell_of text = digits_value 16 text

-- words that are cells, and these
abbrev pub AreCells : Words → Type 0
AreCells words = All (λ w. IsCell w.now) words

abbrev pub cells_of : Words → List ℕ
cells_of words = map (λ w. cell_of w.now) words

-- a minus, or numbers of at most 255 with dots between them
abbrev pub parts_of : List ℕ → List (List ℕ)
parts_of text = slice_split (λ b. b == 46) text

abbrev pub is_root : List ℕ → Bool
is_root text = bytes_eq text (codes "-")

abbrev pub IsPlace : List ℕ → Type 0
IsPlace text = is_root text ≡ false → All (IsNumber 255) (parts_of text)

-- the entries of the place
abbrev pub entries_of : List ℕ → List ℕ
entries_of text = if is_root text then [] else map number_of (parts_of text)

-- what words that are to be cells put behind a list, and what a word that is to be a place does
abbrev pub ReadsCells : Words → List ℕ → List ℕ → Result Part Bad → Type 0
ReadsCells words old new r = ReadsIf r (AreCells words) (Puts (cells_of words) old new)

abbrev pub ReadsPlace : List ℕ → List ℕ → List ℕ → Result Part Bad → Type 0
ReadsPlace text old new r = ReadsIf r (IsPlace text) (Puts (entries_of text) old new)
