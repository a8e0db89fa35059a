-- The words after "if" hold of every way in which a redex has the left side, or of none.
use Rattle.std.proofs.Common.{ℕ, zero, suc, ◌-◌, List, [], ◌∷◌, get_or, ◌≤ℤ◌, ◌<ℤ◌, sym, refl, ap, ◌∙◌, subst, subst₂, arith}
use Rattle.calculus.specs.Line as Line
use Rattle.terms.specs.Cells.{cell}
use Rattle.terms.specs.Rows.{Row, var, pick, Free}
use Rattle.terms.proofs.Inject.{top, under}
use Rattle.verse.specs.Syntax.{seq, eqn}
use Rattle.verse.specs.Syntax.Sort.{hnf, equ}
use Rattle.verse.specs.Contexts.{◌⟦◌⟧}
use Rattle.verse.specs.Lines.{Rule, Binds, Word, value, NotLambda, Holds, Deep}
use Rattle.verse.specs.Lines as Lines
use Rattle.verse.specs.Figure.{figure}
use Rattle.verse.specs.Laws.{OneWay}
use Rattle.verse.proofs.Unique.{two, wide, tails, same_pair, same_binds, same_down, binds_exp, move}

abbrev Firm : Rule → Type 0
Firm r = (inner : List ℕ) (t : Row) (l m : (r inner t).Left) → (r inner t).If l → (r inner t).If m

w2 : Firm Lines.app_gt
w2 inner t l m f = let p = same_pair (cell 2 0 0 1) t l m in subst₂ (λ a b. value b <ℤ value a) p.0 p.1 f

w3 : Firm Lines.app_gt_fail
w3 inner t l m f = let p = same_pair (cell 2 0 0 1) t l m in subst₂ (λ a b. value a ≤ℤ value b) p.0 p.1 f

w7 : Firm Lines.u_lit
w7 inner t l m f =
    let e = sym l.is ∙ m.is in
    let p = ap (λ u. top (pick u 0 (0 ∷ 0 ∷ []))) e in
    let q = ap (λ u. top (pick u 0 (0 ∷ 1 ∷ []))) e in
    omega (arith, p, q, f)

w9 : Firm Lines.u_fail
w9 inner t l m f =
    let a = two _ _ (eqn l.h₁ l.h₂) l.e (eqn m.h₁ m.h₂) m.e refl (sym l.is ∙ m.is) in
    let b = two _ _ l.h₁ l.h₂ m.h₁ m.h₂ (wide hnf hnf l.h₁ m.h₁ l.letters.0 m.letters.0) a.0 in
    (f.0, f.1, subst NotLambda b.0 f.2, subst NotLambda b.1 f.3)

w10 : Firm Lines.u_occurs
w10 inner t l m f = let b = same_binds t t refl l m in subst₂ Deep b.0 b.1 f

w11 : Firm Lines.subst_in
w11 inner t l m f h =
    let d = same_down inner t Binds binds_exp l m in
    let b = same_binds l.hole m.hole d.1 l.there m.there in
    f (subst₂ Holds (sym b.0) (sym b.1) h)

w13 : Firm Lines.var_swap
w13 inner t l m f =
    let e = sym l.is ∙ m.is in
    let p = ap (λ u. top (pick u 0 (0 ∷ 0 ∷ []))) e in
    let q = ap (λ u. top (pick u 0 (0 ∷ 1 ∷ []))) e in
    omega (arith, p, q, f)

w14 : Firm Lines.seq_swap
w14 inner t l m f y v w k e n =
    let a = two _ _ l.q (seq (eqn (var l.x) l.v) l.e) m.q (seq (eqn (var m.x) m.v) m.e) (wide equ equ l.q m.q l.letters.0 m.letters.0) (sym l.is ∙ m.is) in
    let b = two _ _ (eqn (var l.x) l.v) l.e (eqn (var m.x) m.v) m.e refl a.1 in
    let c = ap (λ u. top (under u)) b.0 in
    f y v w k (a.0 ∙ e) (omega (arith, n, c))

w16 : Firm Lines.exi_elim
w16 inner t l m f h = f (subst (Free 0) (sym (ap under (sym l.is ∙ m.is))) h)

w17 : Firm Lines.eqn_elim
w17 inner t l m f =
    let r = tails _ _ _ _ (sym l.way ∙ m.way) in
    let e = ap under (sym l.is ∙ m.is) in
    let n = move l.rest m.rest l.body m.body r e l.within in
    let d = same_down m.rest m.body Binds binds_exp n m.within in
    let b = same_binds l.within.hole m.within.hole d.1 l.within.there m.within.there in
    (λ h. f.0 (subst₂ (λ C e. Free 0 (C ⟦ e ⟧)) (sym d.0) (sym b.2) h), λ h. f.1 (subst (Holds 0) (sym b.1) h))

abbrev Firms : List Rule → Type 0
Firms [] = Unit {0}
Firms (r ∷ rs) = Firm r × Firms rs

firms : Firms figure
firms = (λ inner t l m f. f, (w2, (w3, (λ inner t l m f. f, (λ inner t l m f. f, (λ inner t l m f. f, (w7, (λ inner t l m f. f, (w9, (w10, (w11, (λ inner t l m f. f, (w13, (w14, (λ inner t l m f. f, (w16, (w17, (λ inner t l m f. f, (λ inner t l m f. f, (λ inner t l m f. f, (λ inner t l m f. f, (λ inner t l m f. f, (λ inner t l m f. f, (λ inner t l m f. f, (λ inner t l m f. f, (λ inner t l m f. f, (λ inner t l m f. f, (λ inner t l m f. f, (λ inner t l m f. f, (λ inner t l m f. f, (λ inner t l m f. f, (λ inner t l m f. f, tt))))))))))))))))))))))))))))))))

chosen : (rs : List Rule) (i : ℕ) (d : Rule) → Firms rs → Firm d → Firm (get_or rs i d)
chosen [] i d h k = k
chosen (r ∷ rs) zero d h k = h.0
chosen (r ∷ rs) (suc i) d h k = chosen rs i d h.1 k

pub one_way : OneWay
one_way n = chosen figure (n - 1) (λ inner t. Line.always ⊥ (λ l. t)) firms (λ inner t l m f. f)
