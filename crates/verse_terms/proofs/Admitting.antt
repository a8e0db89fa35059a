-- Which sorts admit a cell, by its kind.
use Rattle.std.proofs.Common.{◌≡◌, ℕ, Bool, true, false, sym, refl, ◌∙◌, arith}
use Rattle.std.proofs.lemmas.Bool.Decides.{nat_tests}
use Rattle.terms.specs.Cells.{kind}
use Rattle.verse.specs.Kind.{number_of}
use Rattle.verse.specs.declared.kind.Kind.{Kind}
use Rattle.verse.specs.declared.kind.Kind.TheVariants.{Variable, Integer, Operator, Tuple, Lambda, Application, Sequence, Equation, Exists, Fail, Choice, One, All}
use Rattle.verse.specs.Syntax.{admits}
use Rattle.verse.specs.Syntax.Sort.{val, exp, equ}
use Rattle.verse_terms.specs.declared.sort.Sort.{Sort}
use Rattle.verse_terms.specs.declared.sort.Sort.TheVariants.{Value, Expression, FirstPart}
use Rattle.verse_terms.specs.Forms.{formed}
use Rattle.verse_terms.specs.Sorts.{sort_of, first_sort}
use Rattle.verse_terms.proofs.Sorts.{val_else, exp_application, exp_sequence, exp_else, equ_equation, equ_else}

-- a sort, and one after it
abbrev pub below : Sort → Sort → Bool
below Value s = true
below Expression Value = false
below Expression Expression = true
below Expression FirstPart = true
below FirstPart Value = false
below FirstPart Expression = false
below FirstPart FirstPart = true

formed_kind : (k : Kind) (c : ℕ) → formed k c ≡ true → kind c ≡ number_of k
formed_kind Variable c h = grind (arith, nat_tests)
formed_kind Integer c h = grind (arith, nat_tests)
formed_kind Operator c h = grind (arith, nat_tests)
formed_kind Tuple c h = grind (arith, nat_tests)
formed_kind Lambda c h = grind (arith, nat_tests)
formed_kind Application c h = grind (arith, nat_tests)
formed_kind Sequence c h = grind (arith, nat_tests)
formed_kind Equation c h = grind (arith, nat_tests)
formed_kind Exists c h = grind (arith, nat_tests)
formed_kind Fail c h = grind (arith, nat_tests)
formed_kind Choice c h = grind (arith, nat_tests)
formed_kind One c h = grind (arith, nat_tests)
formed_kind All c h = grind (arith, nat_tests)

value_kind : (k : Kind) (c : ℕ) → kind c ≡ number_of k → formed k c ≡ true → admits (sort_of Value) c ≡ below (first_sort k) Value
unfolding admits
value_kind Variable c k h = grind (arith, nat_tests)
value_kind Integer c k h = grind (arith, nat_tests)
value_kind Operator c k h = grind (arith, nat_tests)
value_kind Tuple c k h = grind (arith, nat_tests)
value_kind Lambda c k h = grind (arith, nat_tests)
value_kind Application c k h = rw k refl
value_kind Sequence c k h = rw k refl
value_kind Equation c k h = rw k refl
value_kind Exists c k h = rw k refl
value_kind Fail c k h = rw k refl
value_kind Choice c k h = rw k refl
value_kind One c k h = rw k refl
value_kind All c k h = rw k refl

exp_more : (c : ℕ) → admits val c ≡ true → admits exp c ≡ true
unfolding admits
exp_more c h = rw h refl

equ_more : (c : ℕ) → admits exp c ≡ true → admits equ c ≡ true
unfolding admits
equ_more c h = rw h refl

expression_kind : (k : Kind) (c : ℕ) → kind c ≡ number_of k → formed k c ≡ true → admits (sort_of Expression) c ≡ below (first_sort k) Expression
unfolding admits
expression_kind Variable c k h = exp_more c (value_kind Variable c k h)
expression_kind Integer c k h = exp_more c (value_kind Integer c k h)
expression_kind Operator c k h = exp_more c (value_kind Operator c k h)
expression_kind Tuple c k h = exp_more c (value_kind Tuple c k h)
expression_kind Lambda c k h = exp_more c (value_kind Lambda c k h)
expression_kind Application c k h = exp_application c h
expression_kind Sequence c k h = exp_sequence c h
expression_kind Equation c k h = rw k refl
expression_kind Exists c k h = grind (arith, nat_tests)
expression_kind Fail c k h = grind (arith, nat_tests)
expression_kind Choice c k h = grind (arith, nat_tests)
expression_kind One c k h = grind (arith, nat_tests)
expression_kind All c k h = grind (arith, nat_tests)

first_part_kind : (k : Kind) (c : ℕ) → kind c ≡ number_of k → formed k c ≡ true → admits (sort_of FirstPart) c ≡ true
first_part_kind Variable c k h = equ_more c (expression_kind Variable c k h)
first_part_kind Integer c k h = equ_more c (expression_kind Integer c k h)
first_part_kind Operator c k h = equ_more c (expression_kind Operator c k h)
first_part_kind Tuple c k h = equ_more c (expression_kind Tuple c k h)
first_part_kind Lambda c k h = equ_more c (expression_kind Lambda c k h)
first_part_kind Application c k h = equ_more c (expression_kind Application c k h)
first_part_kind Sequence c k h = equ_more c (expression_kind Sequence c k h)
first_part_kind Equation c k h = equ_equation c h
first_part_kind Exists c k h = equ_more c (expression_kind Exists c k h)
first_part_kind Fail c k h = equ_more c (expression_kind Fail c k h)
first_part_kind Choice c k h = equ_more c (expression_kind Choice c k h)
first_part_kind One c k h = equ_more c (expression_kind One c k h)
first_part_kind All c k h = equ_more c (expression_kind All c k h)

-- a sort admits the cells of the kinds of its own and of those before it,
pub admits_kind : (s : Sort) (k : Kind) (c : ℕ) → formed k c ≡ true → admits (sort_of s) c ≡ below (first_sort k) s
admits_kind Value k c h = value_kind k c (formed_kind k c h) h
admits_kind Expression k c h = expression_kind k c (formed_kind k c h) h
admits_kind FirstPart k c h = first_part_kind k c (formed_kind k c h) h ∙ sym (all_below (first_sort k))
  where
    all_below : (z : Sort) → below z FirstPart ≡ true
    all_below Value = refl
    all_below Expression = refl
    all_below FirstPart = refl

-- and no others
pub admits_none : (s : Sort) (c : ℕ) → ((k : Kind) → formed k c ≡ false) → admits (sort_of s) c ≡ false
admits_none s c f = go s
  where
    on_val : admits val c ≡ false
    on_val = val_else c (rw (f Variable, f Integer, f Operator) refl) (f Tuple) (f Lambda)

    on_exp : admits exp c ≡ false
    on_exp = exp_else c (f Application) (f Sequence) (rw (f Exists, f Fail, f Choice, f One, f All) refl) ∙ on_val

    go : (s : Sort) → admits (sort_of s) c ≡ false
    go Value = on_val
    go Expression = on_exp
    go FirstPart = equ_else c (f Equation) ∙ on_exp
