-- What a script holds.
use Rattle.std.specs.Prelude.{◌≡◌, ℕ, ◌+◌, ◌≤◌, ⊤, List, [], ◌∷◌, ◌++◌, codes, length, drop, All, Option, IfSome, Result}
use Rattle.std.specs.Fmt.{decimal}
use Rattle.script.specs.Line.{Begins, TakesCells, with_end}
use Rattle.script.specs.Words.{Words, word, ReadsIf, IsNumber, number_of, AreCells, cells_of}
use Rattle.script.specs.declared.Script.{Script}
use Rattle.script.specs.declared.calculus.Calculus.TheVariants.{LetRewriting}
use Rattle.script.specs.declared.fault.Bad.{Bad}
use Rattle.script.specs.declared.fault.Bad.TheVariants as bad
use Rattle.script.specs.declared.fault.Fault.{Fault}
use Rattle.script.specs.declared.fault.Fault.TheVariants as fault
use Rattle.script.specs.declared.line.Line.{Line}
use Rattle.script.specs.declared.line.Line.TheVariants.{Memory, Table}

-- the fault of a line that is bad so
abbrev pub fault_of : Bad → ℕ → Fault
fault_of bad.Text line = fault.Line line
fault_of bad.Memory line = fault.Memory

-- how it is told
abbrev pub fault_text : Fault → List ℕ
fault_text (fault.Line n) = codes "line " ++ (decimal n ++ codes ": not understood")
fault_text fault.Memory = codes "no memory"

-- no size in a line is over 4,096
abbrev pub IsSized : Line → Type 0
IsSized (Memory t c w) = (t ≤ 4096) × (c ≤ 4096) × (w ≤ 4096)
IsSized (Table n) = n ≤ 4096
IsSized l = ⊤

abbrev pub HasSizes : Script → Type 0
HasSizes s = All IsSized s.lines.items

-- the words of the first line: 2, let-rewriting, and its program's cells; no line follows yet
abbrev pub Begun : Words → Result Script Bad → Type 0
Begun words r = ReadsIf r
    (Begins words (codes "calculus") 2 × IsNumber 255 (word words 1) × (number_of (word words 1) ≡ 2) × AreCells (drop 2 words))
    (λ s. (s.calculus ≡ LetRewriting) × (s.program.items ≡ cells_of (drop 2 words)) × (s.cells.items ≡ []) × (s.entries.items ≡ []) × (s.lines.items ≡ []))

-- further words of the line read last: of the program where no line follows it yet, else of the last line
pub record Continues (words : Words) (old new : Script) (r : Result Unit Bad) : Type 0 where
  pub program : old.lines.items ≡ [] → ReadsIf r
      (AreCells words)
      (λ _. (new.program.items ≡ old.program.items ++ cells_of words) × (new.lines.items ≡ [])
      × (new ≡ record old { program = new.program; lines = new.lines }))
  pub last : (front : List Line) (line : Line) → old.lines.items ≡ front ++ line ∷ [] → ReadsIf r
      (TakesCells line × AreCells words)
      (λ _. (new.cells.items ≡ old.cells.items ++ cells_of words) × (new.lines.items ≡ front ++ with_end (length new.cells.items) line ∷ [])
      × (new ≡ record old { cells = new.cells; lines = new.lines }))

-- a line more, or none, leaves the sizes so
abbrev pub Goes : Option Script → Option Script → Type 0
Goes old new = IfSome old HasSizes → IfSome new HasSizes

-- the fault's line number is 1 or more, and at most one more than the text has bytes
abbrev pub NamesLine : List ℕ → Fault → Type 0
NamesLine text (fault.Line n) = (1 ≤ n) × (n ≤ length text + 1)
NamesLine text fault.Memory = ⊤
