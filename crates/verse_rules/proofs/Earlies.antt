-- An equation of a variable with a value. Assumes nothing.
use Rattle.std.proofs.Common.{◌≡◌, ℕ, ◌≤◌, List, Ok, Err, Decides, Result, sym, refl, ap, ◌∙◌, subst, arith}
use Rattle.std.specs.Result.{is_ok}
use Rattle.std.proofs.lemmas.Bool.{false≢true}
use Rattle.calculus.specs.declared.no.No.{No}
use Rattle.terms.specs.Rows.{Row, var}
use Rattle.terms.proofs.Inject.{top}
use Rattle.verse.specs.Syntax.{eqn, Val}
use Rattle.verse.specs.Syntax.Sort.{val}
use Rattle.verse_rules.specs.Reads.{Reads, Leaf, Valued}
use Rattle.verse_rules.specs.Tests.{Early}
use Rattle.verse_rules.proofs.Sames.{same_two}

module _ (q a b : Row) (x : ℕ) (at bt : List ℕ) (e : q ≡ eqn a b) (ra : Reads val a at) where
  -- y = v, if that is a value
  pub early_if : (y : ℕ) → Leaf var a (Ok y) → y ≤ x → (v : Result (Unit {0}) No) → Valued bt b v → Decides (is_ok v) (Early x q)
  early_if y (w, i) l (Ok u) k = (λ t. (y, b, w, k.lawful, e ∙ ap (λ z. eqn z b) i, l), λ r. refl)
  early_if y (w, i) l (Err f) k = (
    λ t. absurd (false≢true t),
    λ r. absurd (k.1 (subst Val (sym (same_two (var r.0) r.1 e ra r.4 refl).1) r.3)),
  )

  pub not_late : (y : ℕ) → Leaf var a (Ok y) → (y ≤ x → ⊥) → Early x q → ⊥
  not_late y (w, i) n r =
      let s = ap top (sym i ∙ (same_two (var r.0) r.1 e ra r.4 refl).0) in
      n (omega (arith, s, r.5))

  pub no_variable : (f : No) → Leaf var a (Err f) → Early x q → ⊥
  no_variable f n r = n.1 r.0 r.2 (same_two (var r.0) r.1 e ra r.4 refl).0
