-- A line whose right side is one has one answer.
use Rattle.std.proofs.Common.{◌≡◌, ℕ, Ok, Err, Result, sym, ap, ◌∙◌, inl, inr}
use Rattle.calculus.specs.Line as Line
use Rattle.terms.specs.Rows.{Row}

abbrev pub Whole : Line.Line → Type 0
Whole ln = ((l m : ln.Left) → ln.right l ≡ ln.right m) × ((l m : ln.Left) → ln.Fits l → ln.Fits m)

-- a term and a number, and two numbers
clash : (Has Apt : Type 0) (ln : Line.Line) → Whole ln → (u : Row) (k : ℕ) → Line.Says Has Apt ln (Ok u) → Line.Says Has Apt ln (Err k) → ⊥
clash Has Apt ln w u k g (inl h) = h.1 g.0
clash Has Apt ln w u k g (inr (inl h)) = h.2 g.1
clash Has Apt ln w u k g (inr (inr (inl h))) = h.3 g.2.0
clash Has Apt ln w u k g (inr (inr (inr (inl h)))) = h.3.1 g.2.0 g.2.1
clash Has Apt ln w u k g (inr (inr (inr (inr h)))) = h.3.2 (w.1 g.2.0 h.3.0 g.2.2)

numbers : (Has Apt : Type 0) (ln : Line.Line) (j k : ℕ) → Line.Says Has Apt ln (Err j) → Line.Says Has Apt ln (Err k) → j ≡ k
numbers Has Apt ln j k (inl g) (inl h) = g.0 ∙ sym h.0
numbers Has Apt ln j k (inl g) (inr (inl h)) = absurd (g.1 h.1)
numbers Has Apt ln j k (inl g) (inr (inr (inl h))) = absurd (g.1 h.1)
numbers Has Apt ln j k (inl g) (inr (inr (inr (inl h)))) = absurd (g.1 h.1)
numbers Has Apt ln j k (inl g) (inr (inr (inr (inr h)))) = absurd (g.1 h.1)
numbers Has Apt ln j k (inr (inl g)) (inl h) = absurd (h.1 g.1)
numbers Has Apt ln j k (inr (inl g)) (inr (inl h)) = g.0 ∙ sym h.0
numbers Has Apt ln j k (inr (inl g)) (inr (inr (inl h))) = absurd (g.2 h.2)
numbers Has Apt ln j k (inr (inl g)) (inr (inr (inr (inl h)))) = absurd (g.2 h.2)
numbers Has Apt ln j k (inr (inl g)) (inr (inr (inr (inr h)))) = absurd (g.2 h.2)
numbers Has Apt ln j k (inr (inr (inl g))) (inl h) = absurd (h.1 g.1)
numbers Has Apt ln j k (inr (inr (inl g))) (inr (inl h)) = absurd (h.2 g.2)
numbers Has Apt ln j k (inr (inr (inl g))) (inr (inr (inl h))) = g.0 ∙ sym h.0
numbers Has Apt ln j k (inr (inr (inl g))) (inr (inr (inr (inl h)))) = absurd (g.3 h.3.0)
numbers Has Apt ln j k (inr (inr (inl g))) (inr (inr (inr (inr h)))) = absurd (g.3 h.3.0)
numbers Has Apt ln j k (inr (inr (inr (inl g)))) (inl h) = absurd (h.1 g.1)
numbers Has Apt ln j k (inr (inr (inr (inl g)))) (inr (inl h)) = absurd (h.2 g.2)
numbers Has Apt ln j k (inr (inr (inr (inl g)))) (inr (inr (inl h))) = absurd (h.3 g.3.0)
numbers Has Apt ln j k (inr (inr (inr (inl g)))) (inr (inr (inr (inl h)))) = g.0 ∙ sym h.0
numbers Has Apt ln j k (inr (inr (inr (inl g)))) (inr (inr (inr (inr h)))) = absurd (g.3.1 h.3.0 h.3.1)
numbers Has Apt ln j k (inr (inr (inr (inr g)))) (inl h) = absurd (h.1 g.1)
numbers Has Apt ln j k (inr (inr (inr (inr g)))) (inr (inl h)) = absurd (h.2 g.2)
numbers Has Apt ln j k (inr (inr (inr (inr g)))) (inr (inr (inl h))) = absurd (h.3 g.3.0)
numbers Has Apt ln j k (inr (inr (inr (inr g)))) (inr (inr (inr (inl h)))) = absurd (h.3.1 g.3.0 g.3.1)
numbers Has Apt ln j k (inr (inr (inr (inr g)))) (inr (inr (inr (inr h)))) = g.0 ∙ sym h.0

-- answers of a line whose right side is one
pub answer : (Has Apt : Type 0) (ln : Line.Line) → Whole ln → (a b : Result Row ℕ) → Line.Says Has Apt ln a → Line.Says Has Apt ln b → a ≡ b
answer Has Apt ln w (Ok u) (Ok u') g h = ap Ok (g.2.3 ∙ w.0 g.2.0 h.2.0 ∙ sym h.2.3)
answer Has Apt ln w (Ok u) (Err k) g h = absurd (clash Has Apt ln w u k g h)
answer Has Apt ln w (Err k) (Ok u) g h = absurd (clash Has Apt ln w u k h g)
answer Has Apt ln w (Err j) (Err k) g h = ap Err (numbers Has Apt ln j k g h)
