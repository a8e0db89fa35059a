-- Pieces that make a tree, and a rule's answer from them. Assumes nothing.
use Rattle.std.proofs.Common.{◌≡◌, ℕ, List, ◌++◌, length, drop, IsErrAnd, Some, None, Ok, Err, Option, Result, sym, refl, ap, ◌∙◌, subst, arith}
use Rattle.std.specs.Option.{ok_or}
use Rattle.calculus.specs.declared.no.No.{No}
use Rattle.calculus.specs.declared.no.No.TheVariants.{Formless, Overlong}
use Rattle.calculus.specs.Line.{Line, NoForm}
use Rattle.calculus.specs.Written.{Written}
use Rattle.pieces.specs.Parts.{OneTree}
use Rattle.pieces.specs.Shown.{Put}
use Rattle.terms.specs.Rows.{Row, flat, size}
use Rattle.terms.proofs.Trees.{flat_size}
use Rattle.verse.specs.Syntax.{Sort}
use Rattle.verse_rules.specs.Reads.{Reads, Given}
use Rattle.verse_rules.proofs.Lawfuls.{erred}

-- what is put, as a tree
pub given_put : (u : Row) (xs space space' : List ℕ) (r : Option ℕ) (a : Result ℕ No) → xs ≡ flat u → Put xs space space' r → a ≡ ok_or r Overlong → Given u space space' a
given_put u xs space space' (Some n) a e p f =
    let l : length xs ≡ size u = ap length e ∙ flat_size u in
    let k : n ≡ size u = p.0 ∙ l in
    subst (Given u space space') (sym f) (k, omega (arith, k, p.1), p.2 ∙ ap (λ ys. ys ++ drop n space) e ∙ ap (λ m. flat u ++ drop m space) k)
given_put u xs space space' None a e p f =
    let l : length xs ≡ size u = ap length e ∙ flat_size u in
    subst (Given u space space') (sym f) (refl, omega (arith, l, p.0), p.1)

-- a redex that has not the form
pub refused : (ln : Line) (space : List ℕ) (r : Result ℕ No) (f : No) → IsErrAnd r (λ y. y ≡ f) → f ≡ Formless → NoForm ln → Written ln space space r
refused ln space r f h k w = erred (Written ln space space) r f h k (refl, w)

-- the tree that a line gives, written
pub written : (ln : Line) (space space' : List ℕ) (r : Result ℕ No) {xs : List ℕ} → ((u : Row) → xs ≡ flat u → Given u space space' r) → (l : ln.Left) → ln.If l → ln.Fits l → xs ≡ flat (ln.right l) → Written ln space space' r
written ln space space' r give l i f e = go r (give (ln.right l) e)
  where
    go : (r : Result ℕ No) → Given (ln.right l) space space' r → Written ln space space' r
    go (Ok n) w = record { row = ln.right l; gives = (l, i, f, refl); count = w.0; enough = w.1; writes = w.2 }
    go (Err e) w = subst (λ y. Written ln space space' (Err y)) (sym w.0) (w.2, (ln.right l, (l, i, f, refl), w.1))

-- what is moved is one tree
pub one_tree : {t : Row} {s : Sort} {part : List ℕ} → Reads s t part → OneTree part
one_tree {t} h = (t, h.is)
