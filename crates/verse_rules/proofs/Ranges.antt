-- The kinds of the cells that a sort admits: values up to 4, of which 0 are the variables. Assumes nothing.
use Rattle.std.proofs.Common.{◌≡◌, ℕ, ◌≤◌, true, [], ◌∷◌, length, replicate, sym, refl, ap, ◌∙◌, subst, arith}
use lib.ListN.{length-replicate}
use Rattle.std.proofs.lemmas.Bool.Decides.{nat_tests}
use Rattle.terms.specs.Cells.{kind, children, payload, cell}
use Rattle.terms.specs.Rows.{Row, width, var}
use Rattle.terms.specs.Rows.Row.{none, node}
use Rattle.terms.proofs.Inject.{empty, lawful_width}
use Rattle.verse.specs.Syntax.{Sort, head_cell, value_cell, admits, kids, children_of, int, tuple, Lawful, Val, Vals, Hnf}
use Rattle.verse.specs.Syntax.Sort.{val, hnf, exp, equ}

pub head_range : (c : ℕ) → head_cell c ≡ true → (1 ≤ kind c) × (kind c ≤ 4)
head_range c h = (grind (arith, nat_tests), grind (arith, nat_tests))

pub value_range : (c : ℕ) → value_cell c ≡ true → kind c ≤ 4
value_range c h = grind (arith, nat_tests)

-- the cells that a value has
pub low_admits : (s : Sort) (c : ℕ) → admits s c ≡ true → kind c ≤ 4 → value_cell c ≡ true
unfolding admits
low_admits val c h l = h
low_admits hnf c h l = grind (arith, nat_tests)
low_admits exp c h l = grind (arith, nat_tests)
low_admits equ c h l = grind (arith, nat_tests)

pub low_head : (c : ℕ) → value_cell c ≡ true → 1 ≤ kind c → head_cell c ≡ true
low_head c h l = grind (arith, nat_tests)

-- a lawful tree that begins with such a cell
pub value_tree : (s : Sort) (c : ℕ) (ks : Row) → Lawful (s ∷ []) (node c ks none) → kind c ≤ 4 → Val (node c ks none)
unfolding admits kids
value_tree s c ks h l = (low_admits s c h.0 l, h.1, tt)

pub head_tree : (s : Sort) (c : ℕ) (ks : Row) → Lawful (s ∷ []) (node c ks none) → 1 ≤ kind c → kind c ≤ 4 → Hnf (node c ks none)
unfolding admits kids
head_tree s c ks h l m = (low_head c (low_admits s c h.0 m) l, h.1, tt)

pub tree_value : (c : ℕ) (ks : Row) → Val (node c ks none) → kind c ≤ 4
unfolding admits
tree_value c ks h = value_range c h.0

pub tree_head : (c : ℕ) (ks : Row) → Hnf (node c ks none) → (1 ≤ kind c) × (kind c ≤ 4)
unfolding admits
tree_head c ks h = head_range c h.0

-- a variable, and an integer
empty_kids : (k : ℕ) (s : Sort) (c : ℕ) (ks : Row) → kind c ≡ k → children_of k (children c) ≡ [] → Lawful (kids s c) ks → ks ≡ none
unfolding kids
empty_kids k s c ks e m h =
    empty ks (lawful_width admits kids (kids s c) ks h ∙ ap length (ap (λ z. children_of z (children c)) e ∙ m))

leaf_cell : (c : ℕ) → value_cell c ≡ true → kind c ≡ 0 → c ≡ cell 0 0 0 (payload c)
leaf_cell c h k = grind (arith, nat_tests)

int_cell : (c : ℕ) → value_cell c ≡ true → kind c ≡ 1 → c ≡ cell 1 0 0 (payload c)
int_cell c h k = grind (arith, nat_tests)

pub variable_tree : (s : Sort) (c : ℕ) (ks : Row) → Lawful (s ∷ []) (node c ks none) → kind c ≡ 0 → node c ks none ≡ var (payload c)
variable_tree s c ks h k =
    let e = leaf_cell c (low_admits s c h.0 (omega (arith, k))) k in
    let n = empty_kids 0 s c ks k refl h.1 in
    ap (λ d. node d ks none) e ∙ ap (λ r. node (cell 0 0 0 (payload c)) r none) n

pub integer_tree : (s : Sort) (c : ℕ) (ks : Row) → Lawful (s ∷ []) (node c ks none) → kind c ≡ 1 → node c ks none ≡ int (payload c)
integer_tree s c ks h k =
    let e = int_cell c (low_admits s c h.0 (omega (arith, k))) k in
    let n = empty_kids 1 s c ks k refl h.1 in
    ap (λ d. node d ks none) e ∙ ap (λ r. node (cell 1 0 0 (payload c)) r none) n

-- a tuple
tuple_cell : (c : ℕ) → value_cell c ≡ true → kind c ≡ 3 → c ≡ cell 3 0 (children c) 0
tuple_cell c h k = grind (arith, nat_tests)

pub tuple_tree : (s : Sort) (c : ℕ) (ks : Row) → Lawful (s ∷ []) (node c ks none) → kind c ≡ 3 → (node c ks none ≡ tuple ks) × Vals ks × (width ks ≡ children c)
unfolding kids
tuple_tree s c ks h k =
    let e = tuple_cell c (low_admits s c h.0 (omega (arith, k))) k in
    let l : Lawful (replicate (children c) val) ks = subst (λ l. Lawful l ks) (ap (λ z. children_of z (children c)) k) h.1 in
    let w : width ks ≡ children c = lawful_width admits kids (replicate (children c) val) ks l ∙ length-replicate (children c) val in
    (ap (λ d. node d ks none) (e ∙ ap (λ n. cell 3 0 n 0) (sym w)), subst (λ n. Lawful (replicate n val) ks) (sym w) l, w)
