-- The cells of x = v; (q; e). Assumes nothing.
use Rattle.std.proofs.Common.{◌≡◌, ℕ, [], ◌∷◌, ◌++◌, sym, ap, ◌∙◌, append_assoc, append-nil}
use Rattle.terms.specs.Cells.{cell}
use Rattle.terms.specs.Rows.{Row, flat, ◌&◌, var}
use Rattle.terms.proofs.Trees.{flat-&}
use Rattle.verse.specs.Syntax.{seq, eqn}

-- x = v; (q; e)
pub flat_late : (x : ℕ) (v q e : Row) → cell 6 0 2 0 ∷ cell 7 0 2 0 ∷ cell 0 0 0 x ∷ (flat v ++ (cell 6 0 2 0 ∷ (flat q ++ (flat e ++ [])))) ≡ flat (seq (eqn (var x) v) (seq q e))
flat_late x v q e =
    let i = sym (append_assoc (flat q) (flat e) []) ∙ ap (λ l. l ++ []) (sym (flat-& q e)) in
    ap (λ l. cell 6 0 2 0 ∷ cell 7 0 2 0 ∷ cell 0 0 0 x ∷ l) (ap (λ l. flat v ++ (cell 6 0 2 0 ∷ l)) i ∙ sym (append-nil (flat v ++ (cell 6 0 2 0 ∷ (flat (q & e) ++ [])))))
