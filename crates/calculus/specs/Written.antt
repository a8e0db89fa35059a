-- What a step over a line of a figure answers and writes, said of rows.
use Rattle.std.specs.Prelude.{◌≡◌, ℕ, ◌<◌, ◌≤◌, List, ◌++◌, length, drop, Ok, Err, Result}
use Rattle.terms.specs.Rows.{Row, flat, size}
use Rattle.calculus.specs.declared.no.No.{No}
use Rattle.calculus.specs.declared.no.No.TheVariants.{NoRule, Unfit, Formless, Barred, Oversum, Overlong}
use Rattle.calculus.specs.Line.{Line, Gives, NoForm, FormOnly, SumOut}

-- The term that the line gives stands at the front of the space, n is its length, and the other cells stay.
pub record Wrote (ln : Line) (space space' : List ℕ) (n : ℕ) : Type 0 where
  pub row : Row
  pub gives : Gives ln row
  pub count : n ≡ size row
  pub enough : size row ≤ length space
  pub writes : space' ≡ flat row ++ drop (size row) space

-- why it is not written into a space of so many cells
abbrev pub Unwritten : Line → ℕ → No → Type 0
Unwritten ln cells NoRule = ⊥
Unwritten ln cells Unfit = ⊥
Unwritten ln cells Formless = NoForm ln
Unwritten ln cells Barred = FormOnly ln
Unwritten ln cells Oversum = SumOut ln
Unwritten ln cells Overlong = (u : Row) × Gives ln u × (cells < size u)

-- The line's answer, and what the space holds then: on a refusal it stays.
abbrev pub Written : Line → (space space' : List ℕ) → Result ℕ No → Type 0
Written ln space space' (Ok n) = Wrote ln space space' n
Written ln space space' (Err e) = (space' ≡ space) × Unwritten ln (length space) e
