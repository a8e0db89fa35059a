-- What a line of a figure says of a redex, for any calculus, and the numbers it is answered with.
use Rattle.std.specs.Prelude.{◌≡◌, ℕ, ◌⊎◌, List, Ok, Err, Result}
use Rattle.terms.specs.Rows.{Row, flat, Below}

-- What a line says of a redex: each way in which it has the left side, and for that way the words after "if" or
-- "unless", whether the sum is a 32-bit signed integer (where there is one), and the right side.
pub record Line : Type 1 where
  pub Left : Type 0
  pub If : Left → Type 0
  pub Fits : Left → Type 0
  pub right : Left → Row

-- a line with no words, and one with some
abbrev pub always : (L : Type 0) → (L → Row) → Line
always L r = record { Left = L; If = λ l. Unit {0}; Fits = λ l. Unit {0}; right = r }

abbrev pub only_if : (L : Type 0) → (L → Type 0) → (L → Row) → Line
only_if L P r = record { Left = L; If = P; Fits = λ l. Unit {0}; right = r }

-- what a line gives for a redex
abbrev pub Gives : Line → Row → Type 0
Gives ln u = (l : ln.Left) × ln.If l × ln.Fits l × (u ≡ ln.right l)

-- 12: the redex has not the left side
abbrev pub NoForm : Line → Type 0
NoForm ln = ln.Left → ⊥

-- 13: it has, but the words fail
abbrev pub FormOnly : Line → Type 0
FormOnly ln = ln.Left × ((l : ln.Left) → ln.If l → ⊥)

-- 14: the sum is no 32-bit signed integer
abbrev pub SumOut : Line → Type 0
SumOut ln = (l : ln.Left) × ln.If l × (ln.Fits l → ⊥)

-- What is said of a redex where Has says that the calculus has the rule and Apt that argument and inner place suit it:
-- the term given, or 10 to 14.
abbrev pub Says : (Has Apt : Type 0) → Line → Result Row ℕ → Type 0
Says Has Apt ln (Ok u) = Has × Apt × Gives ln u
Says Has Apt ln (Err k) =
    ((k ≡ 10) × (Has → ⊥))
    ⊎ ((k ≡ 11) × Has × (Apt → ⊥))
    ⊎ ((k ≡ 12) × Has × Apt × NoForm ln)
    ⊎ ((k ≡ 13) × Has × Apt × FormOnly ln)
    ⊎ ((k ≡ 14) × Has × Apt × SumOut ln)

-- Cells that are a lawful term with no variable payload above 65,535.
pub record Redex (Term : Row → Type 0) (cells : List ℕ) : Type 0 where
  pub row : Row
  pub lawful : Term row
  pub low : Below 65535 row
  pub reads : flat row ≡ cells

-- The same of any cells: those that are no such term are answered with 12, after 10 and 11.
abbrev pub Answers : (Term : Row → Type 0) (Has Apt : Type 0) → (Row → Line) → List ℕ → Result Row ℕ → Type 0
Answers Term Has Apt line cells (Ok u) = (d : Redex Term cells) × Says Has Apt (line d.row) (Ok u)
Answers Term Has Apt line cells (Err k) =
    ((d : Redex Term cells) × Says Has Apt (line d.row) (Err k))
    ⊎ ((Redex Term cells → ⊥) × (((k ≡ 10) × (Has → ⊥)) ⊎ ((k ≡ 11) × Has × (Apt → ⊥)) ⊎ ((k ≡ 12) × Has × Apt)))
