-- The grammar of let-rewriting: each sort has a tree, and the children of a term are terms.
use Rattle.std.proofs.Common.{◌≡◌, ℕ, ◌+◌, ◌<◌, ◌≤◌, true, false, List, [], ◌∷◌, length, get_or, replicate, sym, refl, ap, ◌∙◌}
use Rattle.terms.specs.Cells.{children, cell}
use Rattle.terms.specs.Rows.{Row}
use Rattle.terms.specs.Rows.Row.{none, node}
use Rattle.terms.specs.Grammar.{Stuck, Lies}
use Rattle.terms.proofs.Judgings.{stuck_end, stuck_bad, stuck_in, stuck_child, lies_in}
use Rattle.lets.specs.Syntax.{Sort, admits, kids, Lawful}
use Rattle.lets.specs.Syntax.Sort.{term, rule, left, pattern}

-- each sort has a tree
pub filler : (ss : List Sort) → (t : Row) × Lawful ss t
unfolding admits kids
filler [] = (none, tt)
filler (term ∷ ss) = let f = filler ss in (node 0 none f.0, (refl, tt, f.1))
filler (rule ∷ ss) =
    let f = filler ss in
    (node (cell 36 0 2 0) (node (cell 33 0 0 0) none (node 0 none none)) f.0, (refl, (refl, tt, (refl, tt, tt)), f.1))
filler (left ∷ ss) = let f = filler ss in (node (cell 33 0 0 0) none f.0, (refl, tt, f.1))
filler (pattern ∷ ss) = let f = filler ss in (node 0 none f.0, (refl, tt, f.1))

-- the sorts of a cell's children
pub term_kids : (c : ℕ) → kids term c ≡ replicate (children c) term
unfolding kids
term_kids c = refl

pub left_kids : (c : ℕ) → kids left c ≡ replicate (children c) pattern
unfolding kids
left_kids c = refl

pub pattern_kids : (c : ℕ) → kids pattern c ≡ replicate (children c) pattern
unfolding kids
pattern_kids c = refl

-- no term lies where the cells run out, nor at a cell that none begins with
pub term_end : (cells : List ℕ) (at : ℕ) → length cells ≤ at → Stuck admits kids (term ∷ []) cells at at
term_end = stuck_end admits kids filler term []

pub term_bad : (cells : List ℕ) (at : ℕ) → at < length cells → admits term (get_or cells at 0) ≡ false → Stuck admits kids (term ∷ []) cells at at
term_bad = stuck_bad admits kids filler term []

-- at a cell that one begins with: a child is stuck, or all lie side by side
pub term_stuck : (cells : List ℕ) (at i n mid d j : ℕ) → at < length cells → admits term (get_or cells at 0) ≡ true → n ≡ children (get_or cells at 0) → i < n → Lies admits kids (replicate i term) cells (at + 1) mid d → Stuck admits kids (term ∷ []) cells mid j → Stuck admits kids (term ∷ []) cells at j
term_stuck cells at i n mid d j h a e l p q =
    stuck_in admits kids filler term cells at h (replicate n term) j a (term_kids (get_or cells at 0) ∙ ap (λ k. replicate k term) (sym e)) (stuck_child admits kids filler term i n l p q)

pub term_lies : (cells : List ℕ) (at n end d : ℕ) → at < length cells → admits term (get_or cells at 0) ≡ true → n ≡ children (get_or cells at 0) → Lies admits kids (replicate n term) cells (at + 1) end d → Lies admits kids (term ∷ []) cells at end (d + 1)
term_lies cells at n end d h a e p =
    lies_in admits kids term cells at h (replicate n term) end d a (term_kids (get_or cells at 0) ∙ ap (λ k. replicate k term) (sym e)) p
