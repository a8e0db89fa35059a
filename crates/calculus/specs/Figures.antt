-- The meaning that the terms of a grammar, its sites and the lines of a figure give, over cells.
use Rattle.std.specs.Prelude.{◌≡◌, ℕ, ◌≤◌, List, Ok, Err, Result}
use Rattle.terms.specs.Rows.{Row, flat, size, width, Formed, Free, Below, Place, put}
use Rattle.calculus.specs.Line.{Line, Gives, Says, Answers}
use Rattle.calculus.specs.Meaning.{Meaning, most}

-- the cells are those of a term
pub record Spells (Term : Row → Type 0) (cells : List ℕ) : Type 0 where
  pub row : Row
  pub lawful : Term row
  pub reads : flat row ≡ cells

-- and the place is a site of it
pub record SiteOf (Term : Row → Type 0) (Site : Row → List ℕ → Type 0) (place cells : List ℕ) : Type 0 where
  pub row : Row
  pub lawful : Term row
  pub reads : flat row ≡ cells
  pub site : Site row place

-- A figure: its terms, its sites, its rules, where argument and inner place suit a rule, and the line of a rule.
pub record Figure : Type 1 where
  pub Term : Row → Type 0
  pub Site : Row → List ℕ → Type 0
  pub HasRule : ℕ → Type 0
  pub Apt : (rule argument : ℕ) (inner : List ℕ) → Type 0
  pub line : (rule argument : ℕ) (inner : List ℕ) → Row → Line

-- The redex is answered with a term, and the result is its cells.
pub record Given (f : Figure) (rule argument : ℕ) (inner redex result : List ℕ) : Type 0 where
  pub row : Row
  pub answers : Answers f.Term (f.HasRule rule) (f.Apt rule argument inner) (f.line rule argument inner) redex (Ok row)
  pub reads : flat row ≡ result

abbrev pub meaning_of : Figure → Meaning
meaning_of f =
    record {
      lawful = λ cells. Spells f.Term cells;
      site = λ place cells. SiteOf f.Term f.Site place cells;
      has_rule = f.HasRule;
      fits = f.Apt;
      gives = λ rule argument inner redex result. Given f rule argument inner redex result;
      refuses = λ rule argument inner redex number. Answers f.Term (f.HasRule rule) (f.Apt rule argument inner) (f.line rule argument inner) redex (Err number);
    }

-- The rule may be tried on the row: 10, 11 and the redex itself are past.
pub record Asked (f : Figure) (rule argument : ℕ) (inner : List ℕ) (t : Row) : Type 0 where
  pub has_rule : f.HasRule rule
  pub apt : f.Apt rule argument inner
  pub lawful : f.Term t
  pub low : Below 65535 t

-- What a figure owes, said of rows. The laws of its meaning follow.
pub record Owes (f : Figure) : Type 0 where
  pub formed : (t : Row) → f.Term t → (width t ≡ 1) × Formed t
  pub sites : (t : Row) (place : List ℕ) → f.Term t → f.Site t place → Place t 0 place
  pub ruled : (rule : ℕ) → f.HasRule rule → rule ≤ 63
  pub named : (rule argument : ℕ) (inner : List ℕ) (t u : Row) → Asked f rule argument inner t → Gives (f.line rule argument inner t) u → Place t 0 inner
  -- the same question has the same answer
  pub answer : (rule argument : ℕ) (inner : List ℕ) (t : Row) (a b : Result Row ℕ) → Says (f.HasRule rule) (f.Apt rule argument inner) (f.line rule argument inner t) a → Says (f.HasRule rule) (f.Apt rule argument inner) (f.line rule argument inner t) b → a ≡ b
  -- what is given is a term, and a term put at a site leaves the whole one
  pub given : (rule argument : ℕ) (inner : List ℕ) (t u : Row) → Asked f rule argument inner t → Gives (f.line rule argument inner t) u → size u ≤ most → f.Term u
  pub kept : (whole : Row) (place : List ℕ) (u : Row) → f.Term whole → f.Site whole place → f.Term u → f.Term (put whole 0 place u)
  -- its free variables are free in the redex
  pub second : (rule argument : ℕ) (inner : List ℕ) (t u : Row) → Asked f rule argument inner t → Gives (f.line rule argument inner t) u → size u ≤ most → (x : ℕ) → Free x u → Free x t
