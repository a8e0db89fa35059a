-- A form has one way to be read. Assumes nothing.
use Rattle.std.proofs.Common.{◌≡◌, ℕ, List, [], ◌∷◌, ◌++◌, sym, refl, ap, ◌∙◌, append_assoc, append-nil}
use Rattle.terms.specs.Cells.{cell}
use Rattle.terms.specs.Rows.{Row, flat, width, ◌&◌, var}
use Rattle.terms.specs.Rows.Row.{none, node}
use Rattle.terms.proofs.Inject.{under}
use Rattle.terms.specs.Terms.{TreeOf}
use Rattle.verse.specs.Syntax.{Sort, seq, eqn, exists, tuple}
use Rattle.verse_rules.specs.Reads.{Reads}
use Rattle.verse.proofs.Unique.{two}

-- over one tree, and over two
pub same_one : {t a p : Row} {c : ℕ} → t ≡ node c a none → t ≡ node c p none → a ≡ p
same_one e f = ap under (sym e ∙ f)

pub same_two : {t a b : Row} {c : ℕ} {s : Sort} {part : List ℕ} (p q : Row) → t ≡ node c (a & b) none → Reads s a part → t ≡ node c (p & q) none → width p ≡ 1 → (a ≡ p) × (b ≡ q)
same_two {t} {a} {b} {c} p q e h f k = two c c a b p q (h.is.one ∙ sym k) (sym e ∙ f)

-- v = b; e
pub same_three : {t a b e : Row} {s : Sort} {part : List ℕ} (p q f : Row) → t ≡ seq (eqn a b) e → Reads s a part → t ≡ seq (eqn p q) f → width p ≡ 1 → (a ≡ p) × (b ≡ q) × (e ≡ f)
same_three {t} {a} {b} {e} p q f x h y k =
    let m = two _ _ (eqn a b) e (eqn p q) f refl (sym x ∙ y) in
    let n = two _ _ a b p q (h.is.one ∙ sym k) m.0 in
    (n.0, n.1, m.1)

-- a tuple of one tree
pub flat_single : {v : Row} {part : List ℕ} → TreeOf part v → cell 3 0 1 0 ∷ (flat v ++ []) ≡ flat (tuple v)
flat_single {v} l = ap (λ n. cell 3 0 n 0 ∷ (flat v ++ [])) (sym l.one)

-- the two sides of v = b; e told
pub two_leaves : {a b p q : Row} (e : Row) → a ≡ p → b ≡ q → seq (eqn a b) e ≡ seq (eqn p q) e
two_leaves {a} {b} {p} {q} e i j = ap (λ x. seq (eqn x b) e) i ∙ ap (λ x. seq (eqn p x) e) j

-- ∃x. x = v; e
pub flat_beta : (v e : Row) → cell 8 1 1 0 ∷ cell 6 0 2 0 ∷ cell 7 0 2 0 ∷ cell 0 0 0 0 ∷ (flat v ++ (flat e ++ [])) ≡ flat (exists (seq (eqn (var 0) v) e))
flat_beta v e =
    ap (λ l. cell 8 1 1 0 ∷ cell 6 0 2 0 ∷ cell 7 0 2 0 ∷ cell 0 0 0 0 ∷ l) (sym (append_assoc (flat v) (flat e) []) ∙ sym (append-nil ((flat v ++ flat e) ++ [])))
