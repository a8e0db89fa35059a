-- The rules of let-rewriting over a program, a definition for each; what a rule gives and when it refuses.
-- The nearest binder is 0.
use Rattle.std.specs.Prelude.{◌≡◌, ℕ, ◌-◌, ◌<◌, ◌≤◌, true, cond, ◌⊎◌, List, [], ◌∷◌, length, Result, ◌==◌, slice_index_or}
use Rattle.terms.specs.Cells.{kind, payload}
use Rattle.terms.specs.Rows.{Row, width, kind_of, ◌&◌, var, fvs, Free, up, down, up_beyond, substitute, instantiate, pick}
use Rattle.terms.specs.Rows.Row.{none, node}
use Rattle.calculus.specs.Line as Line
use Rattle.calculus.specs.Line.{always, only_if}
use Rattle.lets.specs.Syntax.{fun, marked, let_in, arrow, Term, Terms, light}

-- of a program (its rules side by side), an argument and a redex
abbrev pub Rule : Type 1
Rule = Row → ℕ → Row → Line.Line

-- the binding of a variable: the tree of that number
abbrev pub binding : Row → ℕ → Row
binding bs x = pick bs x []

-- Patterns match terms, one by one: a variable the term that is its binding, a constructor its own symbol.
abbrev pub Match : Row → Row → Row → Type 0
Match bs none none = Unit {0}
Match bs none (node d js s) = ⊥
Match bs (node c ks r) none = ⊥
Match bs (node c ks r) (node d js s) =
    cond (kind c == 0) (binding bs (payload c) ≡ node d js none) ((c ≡ d) × Match bs ks js) × Match bs r s

-- 1 Fapp   f?(p)θ → rθ   if (f(p) → r) is the program rule that the argument numbers, and θ is light
pub record Called (program : Row) (argument : ℕ) (t : Row) : Type 0 where
  pub f : ℕ
  pub p : Row
  pub r : Row
  pub ts : Row
  pub θ : Row
  pub numbered : pick program argument [] ≡ arrow (fun f p) r
  pub letters : (f < 1024) × Terms ts × Terms θ
  pub is : (t ≡ fun f ts) ⊎ (t ≡ marked f ts)
  pub bound : width θ ≡ length (fvs (fun f p))
  pub matched : Match θ p ts

abbrev pub fapp : Rule
fapp program argument t = only_if (Called program argument t) (λ l. light l.θ ≡ true) (λ l. substitute (binding l.θ) 0 0 l.r)

-- 2 LetIn   h(.., e, ..) → let X = e in h(.., X, ..)   if e is an unmarked function or a let
pub record Carries (argument : ℕ) (t : Row) : Type 0 where
  pub h : ℕ
  pub before : Row
  pub e : Row
  pub after : Row
  pub head : (32 ≤ kind h) × (kind h ≤ 34)
  pub letters : Terms before × Term e × Terms after
  pub number : width before ≡ argument
  pub is : t ≡ node h (before & (e & after)) none

abbrev pub letin : Rule
letin program argument t =
    only_if (Carries argument t) (λ l. (kind_of l.e ≡ 33) ⊎ (kind_of l.e ≡ 35))
    (λ l. let_in l.e (node l.h (up l.before & (var 0 & up l.after)) none))

-- let X = a in e
pub record Let (t : Row) : Type 0 where
  pub a : Row
  pub e : Row
  pub letters : Term a × Term e
  pub is : t ≡ let_in a e

-- 3 Bind   let X = t in e → e[X/t]   if t is light
abbrev pub bind : Rule
bind program argument t = only_if (Let t) (λ l. light l.a ≡ true) (λ l. instantiate l.a l.e)

-- 4 Elim   let X = a in e → e   if X ∉ FV(e)
abbrev pub elim_let : Rule
elim_let program argument t = only_if (Let t) (λ l. Free 0 l.e → ⊥) (λ l. down l.e)

-- 5 Flat   let X = (let Y = a in b) in e → let Y = a in let X = b in e
pub record Lets (t : Row) : Type 0 where
  pub a : Row
  pub b : Row
  pub e : Row
  pub letters : Term a × Term b × Term e
  pub is : t ≡ let_in (let_in a b) e

abbrev pub flatten : Rule
flatten program argument t = always (Lets t) (λ l. let_in l.a (let_in l.b (up_beyond l.e)))

abbrev pub figure : List Rule
figure = fapp ∷ letin ∷ bind ∷ elim_let ∷ flatten ∷ []

-- the line of a rule number; past the figure one that has no left side
abbrev pub line : ℕ → Rule
line n = slice_index_or figure (n - 1) (λ program argument t. always ⊥ (λ l. t))

-- Has the calculus that rule? (else 10)
abbrev pub HasRule : ℕ → Type 0
HasRule n = (1 ≤ n) × (n ≤ 5)

-- Is the inner place, which no rule uses, empty, an unused argument 0, Fapp's rule there? (else 11)
abbrev pub Apt : Row → ℕ → ℕ → List ℕ → Type 0
Apt program n argument inner = (inner ≡ []) × ((n ≡ 1 → argument < width program) × (3 ≤ n → argument ≡ 0))

-- The meaning: of a rule, an argument, an inner place and a redex, a term or a number from 10 to 13.
abbrev pub Says : Row → ℕ → ℕ → List ℕ → Row → Result Row ℕ → Type 0
Says program n argument inner t a = Line.Says (HasRule n) (Apt program n argument inner) (line n program argument t) a

-- the same of any cells
abbrev pub Answers : Row → ℕ → ℕ → List ℕ → List ℕ → Result Row ℕ → Type 0
Answers program n argument inner cells a = Line.Answers Term (HasRule n) (Apt program n argument inner) (line n program argument) cells a
