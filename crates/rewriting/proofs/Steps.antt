-- What a rule's step answers, from what its parts answer. Assumes nothing.
use Rattle.std.proofs.Common.{◌≡◌, ℕ, List, ◌++◌, length, drop, Some, None, Ok, Err, Option, Result, sym, refl, ap, ◌∙◌, subst, arith}
use Rattle.std.specs.Option.{ok_or}
use Rattle.terms.specs.Rows.{Row, flat}
use Rattle.calculus.specs.declared.no.No.{No}
use Rattle.calculus.specs.declared.no.No.TheVariants.{Formless, Overlong}
use Rattle.calculus.specs.Line.{Line, Gives, NoForm}
use Rattle.calculus.specs.Written.{Wrote, Written, Unwritten}
use Rattle.moves.specs.Moved as Moved
use Rattle.moves.specs.Substitutions.{Put}

-- what an `ok_or` answered, by what it was made of
pub ok_or_err : (o : Option ℕ) (x : No) {r : Result ℕ No} {e : No} → r ≡ ok_or o x → r ≡ Err e → (e ≡ x) × (o ≡ None)
ok_or_err None x p q = (cc (p, q), refl)
ok_or_err (Some n) x p q = let z : ◌≡◌ {A = ℕ} 0 1 = cc (p, q) in absurd (omega arith)

pub ok_or_ok : (o : Option ℕ) (x : No) {r : Result ℕ No} {n : ℕ} → r ≡ ok_or o x → r ≡ Ok n → o ≡ Some n
ok_or_ok None x p q = let z : ◌≡◌ {A = ℕ} 0 1 = cc (p, q) in absurd (omega arith)
ok_or_ok (Some m) x p q = cc (p, q)

module _ (ln : Line) (space : List ℕ) where
  -- a redex with no left side
  pub formless : {bad : No} → (bad ≡ Formless) × NoForm ln → Written ln space space (Err bad)
  formless h = (refl, subst (Unwritten ln (length space)) (sym h.0) h.1)

  module _ (space' : List ℕ) (u : Row) (g : Gives ln u) where
    -- what the line gives, written
    pub wrote_row : {n : ℕ} → Moved.Written u space space' n → Wrote ln space space' n
    wrote_row w =
        record {
          row = u;
          gives = g;
          count = w.count;
          enough = let k = w.fits in omega (arith, w.count);
          writes = w.writes ∙ ap (λ k. flat u ++ drop k space) w.count;
        }

    -- or too long for the space
    pub put_row : (o : Option ℕ) {r : Result ℕ No} → r ≡ ok_or o Overlong → Put u space space' o → Written ln space space' r
    put_row (Some n) e h = subst (Written ln space space') (sym e) (wrote_row h)
    put_row None e h = subst (Written ln space space') (sym e) (h.0, (u, g, h.1))
