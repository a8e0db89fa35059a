-- The cells of trees that count their children read as these trees, and of any trees read they are the cells. Assumes nothing.
use Rattle.std.proofs.Common.{◌≡◌, ℕ, zero, suc, List, [], ◌∷◌, ◌++◌, sym, refl, ap, ◌∙◌, append_assoc, append-nil, arith}
use Rattle.terms.specs.Cells.{children}
use Rattle.terms.specs.Rows.{Row, flat, width, ◌&◌, Counted}
use Rattle.terms.specs.Rows.Row.{none, node}
use Rattle.terms.specs.Reading.{first, rest, trees}
use Rattle.terms.proofs.Trees.{flat-&, &-none}

-- a row cut between two rows
pub first-& : (a b : Row) (n : ℕ) → n ≡ width a → first n (a & b) ≡ a
first-& none b zero e = refl
first-& none b (suc n) e = absurd (omega arith)
first-& (node c ks r) b zero e = absurd (omega arith)
first-& (node c ks r) b (suc n) e = ap (node c ks) (first-& r b n (omega arith))

pub rest-& : (a b : Row) (n : ℕ) → n ≡ width a → rest n (a & b) ≡ b
rest-& none b zero e = refl
rest-& none b (suc n) e = absurd (omega arith)
rest-& (node c ks r) b zero e = absurd (omega arith)
rest-& (node c ks r) b (suc n) e = rest-& r b n (omega arith)

-- and the two put together again
pub first_rest : (n : ℕ) (t : Row) → first n t & rest n t ≡ t
first_rest zero t = refl
first_rest (suc n) none = refl
first_rest (suc n) (node c ks r) = ap (node c ks) (first_rest n r)

-- The cells of counted trees, and more behind them, read as these trees and then what the others read as.
pub reads-& : (t : Row) (l : List ℕ) → Counted t → trees (flat t ++ l) ≡ t & trees l
reads-& none l g = refl
reads-& (node c ks r) l g =
    let e : trees ((flat ks ++ flat r) ++ l) ≡ ks & (r & trees l) =
    ap trees (append_assoc (flat ks) (flat r) l) ∙ reads-& ks (flat r ++ l) g.2 ∙ ap (λ x. ks & x) (reads-& r l g.3) in
    ap (λ x. node c (first (children c) x) (rest (children c) x)) e ∙ ap (λ x. node c x (rest (children c) (ks & (r & trees l)))) (first-& ks (r & trees l) (children c) g.1) ∙ ap (node c ks) (rest-& ks (r & trees l) (children c) g.1)

pub reads_flat : (t : Row) → Counted t → trees (flat t) ≡ t
reads_flat t g = ap trees (sym (append-nil (flat t))) ∙ reads-& t [] g ∙ &-none t

-- What cells read as has these cells.
pub flat_reads : (l : List ℕ) → flat (trees l) ≡ l
flat_reads [] = refl
flat_reads (c ∷ cs) =
    ap (λ l. c ∷ l) (sym (flat-& (first (children c) (trees cs)) (rest (children c) (trees cs))) ∙ ap flat (first_rest (children c) (trees cs)) ∙ flat_reads cs)
