-- The sides of a program rule, told by their cells. Assumes nothing.
use Rattle.std.proofs.Common.{◌≡◌, ℕ, zero, suc, ◌-◌, Bool, true, false, cond, ◌&&◌, eqb, List, [], ◌∷◌, ◌++◌, replicate, Decides, sym, refl, ap, ◌∙◌, subst, append-nil, arith}
use Rattle.std.proofs.lemmas.Bool.Decides.{nat_tests}
use Rattle.std.specs.List.{list_all}
use Rattle.terms.specs.Cells.{kind, binder, children, payload, loose}
use Rattle.terms.specs.Rows.{Row, flat, width, above, own, frees, fvs, Counted}
use Rattle.terms.specs.Rows.Row.{none, node}
use Rattle.terms.proofs.Deciding.{contrary}
use Rattle.terms.proofs.Moves.{ground}
use Rattle.terms.proofs.Uniform.{admitted_lawful, lawful_admitted}
use Rattle.lets.specs.Syntax.{Sort, admits, kids, Lawful, Term}
use Rattle.lets.specs.Syntax.Sort.{term, left, pattern}
use Rattle.lets.specs.Checks.{Admitted, LeftCells, payloads}
use Rattle.lets.proofs.Judges.{term_kids, left_kids, pattern_kids}

-- each of the cells passes the test of a sort
pub admitted_all : (s : Sort) (cells : List ℕ) (r : Bool) → r ≡ list_all (admits s) cells → Decides r (Admitted s cells)
admitted_all s [] r e = (λ q. tt, λ a. e)
admitted_all s (c ∷ cells) r e = go (admits s c) refl e (admitted_all s cells r)
  where
    go : (b : Bool) → admits s c ≡ b → r ≡ (b && list_all (admits s) cells) → (r ≡ list_all (admits s) cells → Decides r (Admitted s cells)) → Decides r (Admitted s (c ∷ cells))
    go true q e d = (λ t. (q, (d e).0 t), λ a. (d e).1 a.1)
    go false q e d = (λ t. absurd (contrary t e), λ a. absurd (contrary a.0 q))

-- One counted tree is a term exactly where a term may begin with each of its cells,
pub cells_term : (t : Row) → width t ≡ 1 → Counted t → Admitted term (flat t) → Term t
cells_term t w g a = admitted_lawful admits kids term term_kids 1 t w g a

pub term_cells : (t : Row) → Term t → Admitted term (flat t)
term_cells t h = lawful_admitted admits kids term term_kids 1 t h

-- and a left side exactly where its cells are those of one.
pub cells_left : (t : Row) → width t ≡ 1 → Counted t → LeftCells (flat t) → Lawful (left ∷ []) t
cells_left none w g h = absurd (omega arith)
cells_left (node c ks (node d js r)) w g h = absurd (omega arith)
cells_left (node c ks none) w g h =
    let a = subst (Admitted pattern) (append-nil (flat ks)) h.1 in
    (h.0, subst (λ ss. Lawful ss ks) (sym (left_kids c)) (admitted_lawful admits kids pattern pattern_kids (children c) ks (sym g.1) g.2 a), tt)

pub left_cells_of : (t : Row) → Lawful (left ∷ []) t → LeftCells (flat t)
left_cells_of none h = absurd h
left_cells_of (node c ks (node d js r)) h = absurd h.2
left_cells_of (node c ks none) h =
    let a = lawful_admitted admits kids pattern pattern_kids (children c) ks (subst (λ ss. Lawful ss ks) (left_kids c) h.1) in
    (h.0, subst (Admitted pattern) (sym (append-nil (flat ks))) a)

-- Under no binder a cell's own number is its payload.
own_ground : (c : ℕ) → own 0 c ≡ cond (eqb (kind c) 0) (payload c ∷ []) []
own_ground c = go (eqb (kind c) 0) refl
  where
    go : (b : Bool) → eqb (kind c) 0 ≡ b → own 0 c ≡ cond b (payload c ∷ []) []
    go true e =
        let l : loose 0 c ≡ true = grind (arith, nat_tests) in
        let z : payload c - 0 ≡ payload c = omega arith in
        ap (λ b. cond b ((payload c - 0) ∷ []) []) l ∙ ap (λ n. n ∷ []) z
    go false e =
        let l : loose 0 c ≡ false = grind (arith, nat_tests) in
        ap (λ b. cond b ((payload c - 0) ∷ []) []) l

payloads_first : (c : ℕ) (cells : List ℕ) → payloads (c ∷ cells) ≡ cond (eqb (kind c) 0) (payload c ∷ []) [] ++ payloads cells
payloads_first c cells = go (eqb (kind c) 0)
  where
    go : (b : Bool) → cond b (payload c ∷ payloads cells) (payloads cells) ≡ cond b (payload c ∷ []) [] ++ payloads cells
    go true = refl
    go false = refl

pub payloads-++ : (xs ys : List ℕ) → payloads (xs ++ ys) ≡ payloads xs ++ payloads ys
payloads-++ [] ys = refl
payloads-++ (x ∷ xs) ys = go (eqb (kind x) 0) (payloads-++ xs ys)
  where
    go : (b : Bool) → payloads (xs ++ ys) ≡ payloads xs ++ payloads ys → cond b (payload x ∷ payloads (xs ++ ys)) (payloads (xs ++ ys)) ≡ cond b (payload x ∷ payloads xs) (payloads xs) ++ payloads ys
    go true e = ap (λ l. payload x ∷ l) e
    go false e = e

no_binder : (c : ℕ) → admits pattern c ≡ true → binder c ≡ 0
unfolding admits
no_binder c a = grind (arith, nat_tests)

no_binder_left : (c : ℕ) → admits left c ≡ true → binder c ≡ 0
unfolding admits
no_binder_left c a = grind (arith, nat_tests)

-- the free variables of patterns
pattern_frees : (n : ℕ) (t : Row) → Lawful (replicate n pattern) t → frees 0 0 t ≡ payloads (flat t)
unfolding kids
pattern_frees zero none h = refl
pattern_frees zero (node c ks r) h = absurd h
pattern_frees (suc n) none h = absurd h
pattern_frees (suc n) (node c ks r) h =
    let e : own (above 0 0 r) c ≡ cond (eqb (kind c) 0) (payload c ∷ []) [] = ap (λ d. own d c) (ground r) ∙ own_ground c in
    let f : frees (above 0 0 r) (binder c) ks ≡ payloads (flat ks) =
    ap (λ d. frees d (binder c) ks) (ground r) ∙ ap (λ b. frees 0 b ks) (no_binder c h.0) ∙ pattern_frees (children c) ks h.1 in
    let g = pattern_frees n r h.2 in
    rw (e, f, g) (ap (λ l. cond (eqb (kind c) 0) (payload c ∷ []) [] ++ l) (sym (payloads-++ (flat ks) (flat r))) ∙ sym (payloads_first c (flat ks ++ flat r)))

-- and of a left side
pub left_frees : (t : Row) → Lawful (left ∷ []) t → fvs t ≡ payloads (flat t)
unfolding kids
left_frees none h = absurd h
left_frees (node c ks (node d js r)) h = absurd h.2
left_frees (node c ks none) h =
    let e = own_ground c in
    let f : frees 0 (binder c) ks ≡ payloads (flat ks) = ap (λ b. frees 0 b ks) (no_binder_left c h.0) ∙ pattern_frees (children c) ks h.1 in
    ap (λ l. l ++ (frees 0 (binder c) ks ++ [])) e ∙ ap (λ l. cond (eqb (kind c) 0) (payload c ∷ []) [] ++ (l ++ [])) f ∙ ap (λ l. cond (eqb (kind c) 0) (payload c ∷ []) [] ++ l) (append-nil (payloads (flat ks)) ∙ ap payloads (sym (append-nil (flat ks)))) ∙ sym (payloads_first c (flat ks ++ []))
