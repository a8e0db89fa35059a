-- What a result was before its error was mapped. Assumes nothing.
use Rattle.std.proofs.Common.{◌≡◌, Ok, Err, Result, sym, refl, ◌∙◌, subst}
use Rattle.std.specs.Result.{MatchResult, IsErrAnd}
use Rattle.std.proofs.lemmas.Result.{err_from_is_err_and}

module _ {T E D : Type 0} (P : E → D → Type 0) where
  pub mapped_ok : (r : Result T E) (q : Result T D) (x : T) → MatchResult r (λ y. q ≡ Ok y) (λ e. IsErrAnd q (P e)) → q ≡ Ok x → r ≡ Ok x
  mapped_ok (Ok y) q x h e = let k : y ≡ x = cc in cc
  mapped_ok (Err d) q x h e = let p = err_from_is_err_and q h in let f : Ok x ≡ Err p.0 = sym e ∙ p.1 in cc

  pub mapped_err : (r : Result T E) (q : Result T D) (y : D) → MatchResult r (λ x. q ≡ Ok x) (λ e. IsErrAnd q (P e)) → q ≡ Err y → (e : E) × (r ≡ Err e) × P e y
  mapped_err (Ok x) q y h e = let f : Ok x ≡ Err y = sym h ∙ e in absurd (cc)
  mapped_err (Err d) q y h e = let p = err_from_is_err_and q h in let f : p.0 ≡ y = cc (p.1, e) in (d, refl, subst (P d) f p.2)
