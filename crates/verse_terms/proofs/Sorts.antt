-- The grammar of the Verse calculus: each sort has a tree, and which cells a sort admits with which children.
use Rattle.std.proofs.Common.{◌≡◌, ℕ, zero, suc, ◌≤◌, true, false, ◌||◌, List, [], ◌∷◌, replicate, sym, refl, ap, ◌∙◌, ⊎_elim, arith}
use Rattle.std.proofs.lemmas.Bool.{or_cases}
use Rattle.std.proofs.lemmas.Bool.Decides.{nat_tests}
use Rattle.std.proofs.Math.Bool.{or-true, or-false}
use Rattle.terms.specs.Cells.{kind, children, cell}
use Rattle.terms.specs.Rows.{Row}
use Rattle.terms.specs.Rows.Row.{none, node}
use Rattle.verse.specs.Syntax.{Sort, admits, kids, children_of, Lawful, expression_cell, plain}
use Rattle.verse.specs.Syntax.Sort.{val, hnf, exp, equ}
use Rattle.verse_terms.specs.Forms.{leaf, tupled, bound, applied, sequenced, equated, joined}

-- each sort has a tree
pub filler : (ss : List Sort) → (t : Row) × Lawful ss t
unfolding admits kids
filler [] = (none, tt)
filler (val ∷ ss) = let f = filler ss in (node 0 none f.0, (refl, tt, f.1))
filler (hnf ∷ ss) = let f = filler ss in (node (cell 1 0 0 0) none f.0, (refl, tt, f.1))
filler (exp ∷ ss) = let f = filler ss in (node 0 none f.0, (refl, tt, f.1))
filler (equ ∷ ss) = let f = filler ss in (node 0 none f.0, (refl, tt, f.1))

-- the children of a cell of a kind
pub kids_of : (s : Sort) (c k : ℕ) → kind c ≡ k → kids s c ≡ children_of k (children c)
unfolding kids
kids_of s c k e = ap (λ n. children_of n (children c)) e

plain_kids : (s : Sort) (k b n c : ℕ) → plain k b n c ≡ true → kids s c ≡ children_of k n
plain_kids s k b n c h =
    let e : kind c ≡ k = grind (arith, nat_tests) in
    let f : children c ≡ n = grind (arith, nat_tests) in
    kids_of s c k e ∙ ap (children_of k) f

-- What each form's children are.
no_kids : (k n : ℕ) → k ≤ 2 → children_of k n ≡ []
no_kids zero n h = refl
no_kids (suc zero) n h = refl
no_kids (suc (suc zero)) n h = refl
no_kids (suc (suc (suc k))) n h = absurd (omega arith)

pub leaf_kids : (s : Sort) (c : ℕ) → leaf c ≡ true → kids s c ≡ []
leaf_kids s c h = let k : kind c ≤ 2 = grind (arith, nat_tests) in kids_of s c (kind c) refl ∙ no_kids (kind c) (children c) k

pub tuple_kids : (s : Sort) (c : ℕ) → tupled c ≡ true → kids s c ≡ replicate (children c) val
tuple_kids s c h = let k : kind c ≡ 3 = grind (arith, nat_tests) in kids_of s c 3 k

pub lambda_kids : (s : Sort) (c : ℕ) → bound c ≡ true → kids s c ≡ exp ∷ []
lambda_kids s c h = plain_kids s 4 1 1 c h

pub application_kids : (s : Sort) (c : ℕ) → applied c ≡ true → kids s c ≡ val ∷ val ∷ []
application_kids s c h = plain_kids s 5 0 2 c h

pub sequence_kids : (s : Sort) (c : ℕ) → sequenced c ≡ true → kids s c ≡ equ ∷ exp ∷ []
sequence_kids s c h = plain_kids s 6 0 2 c h

pub equation_kids : (s : Sort) (c : ℕ) → equated c ≡ true → kids s c ≡ val ∷ exp ∷ []
equation_kids s c h = plain_kids s 7 0 2 c h

pub joined_kids : (s : Sort) (c : ℕ) → joined c ≡ true → kids s c ≡ replicate (children c) exp
joined_kids s c h =
    ⊎_elim (all_of 8 1 1 refl) (λ i. ⊎_elim (all_of 9 0 0 refl) (λ j. ⊎_elim (all_of 10 0 2 refl) (λ k. ⊎_elim (all_of 11 0 1 refl) (all_of 12 0 1 refl)
    (or_cases (plain 11 0 1 c) (plain 12 0 1 c) k))
    (or_cases (plain 10 0 2 c) (plain 11 0 1 c || plain 12 0 1 c) j))
    (or_cases (plain 9 0 0 c) (plain 10 0 2 c || (plain 11 0 1 c || plain 12 0 1 c)) i))
    (or_cases (plain 8 1 1 c) (plain 9 0 0 c || (plain 10 0 2 c || (plain 11 0 1 c || plain 12 0 1 c))) h)
  where
    all_of : (k b n : ℕ) → children_of k n ≡ replicate n exp → plain k b n c ≡ true → kids s c ≡ replicate (children c) exp
    all_of k b n e p = let f : children c ≡ n = grind (arith, nat_tests) in plain_kids s k b n c p ∙ e ∙ ap (λ m. replicate m exp) (sym f)

-- Which forms each sort admits.
pub val_else : (c : ℕ) → leaf c ≡ false → tupled c ≡ false → bound c ≡ false → admits val c ≡ false
unfolding admits
val_else c h i j = grind (arith, nat_tests)

pub exp_application : (c : ℕ) → applied c ≡ true → admits exp c ≡ true
unfolding admits
exp_application c h = grind (arith, nat_tests)

pub exp_sequence : (c : ℕ) → sequenced c ≡ true → admits exp c ≡ true
unfolding admits
exp_sequence c h = grind (arith, nat_tests)

pub exp_else : (c : ℕ) → applied c ≡ false → sequenced c ≡ false → joined c ≡ false → admits exp c ≡ admits val c
unfolding admits
exp_else c h i j = grind (arith, nat_tests)

pub equ_equation : (c : ℕ) → equated c ≡ true → admits equ c ≡ true
unfolding admits
equ_equation c h = ap (λ b. expression_cell c || b) h ∙ or-true (expression_cell c)

pub equ_else : (c : ℕ) → equated c ≡ false → admits equ c ≡ admits exp c
unfolding admits
equ_else c h = ap (λ b. expression_cell c || b) h ∙ or-false (expression_cell c)

-- the children do not depend on the sort
pub kids_alike : (s z : Sort) (c : ℕ) → kids s c ≡ kids z c
unfolding kids
kids_alike s z c = refl
