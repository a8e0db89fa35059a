-- Cells of a lawful row have one of the forms, and its tree counts its children.
use Rattle.std.proofs.Common.{◌≡◌, ℕ, Bool, true, false, ◌||◌, List, [], ◌∷◌, sym, refl, ap, ◌∙◌, arith}
use Rattle.std.proofs.Math.Bool.{or-true}
use Rattle.terms.specs.Cells.{form}
use Rattle.terms.specs.Rows.{Row, flat}
use Rattle.terms.specs.Terms.{TreeOf}
use Rattle.terms.proofs.Inject.{lawful_width}
use Rattle.verse.specs.Syntax.{Sort, admits, kids, Term}
use Rattle.verse.specs.Syntax.Sort.{val, hnf, exp, equ}
pub use Rattle.verse.proofs.Meaning.{lawful_counted}
use Rattle.verse_terms.specs.Forms.{leaf, tupled, bound, applied, sequenced, equated, joined}
use Rattle.verse_terms.proofs.Sorts.{val_else, exp_else, equ_else}

-- the form of a cell
pub data Form (c : ℕ) : Type 0 where
  a_leaf : leaf c ≡ true → Form c
  a_tuple : tupled c ≡ true → Form c
  a_lambda : bound c ≡ true → Form c
  an_application : applied c ≡ true → Form c
  a_sequence : sequenced c ≡ true → Form c
  an_equation : equated c ≡ true → Form c
  a_join : joined c ≡ true → Form c

differ : {A : Type 0} {b : Bool} → b ≡ true → b ≡ false → A
differ p q = let z : ◌≡◌ {A = ℕ} 0 1 = cc in absurd (omega arith)

val_form : (c : ℕ) → admits val c ≡ true → Form c
val_form c h = go (leaf c) (tupled c) (bound c) refl refl refl
  where
    go : (i j k : Bool) → leaf c ≡ i → tupled c ≡ j → bound c ≡ k → Form c
    go true j k a b d = a_leaf a
    go false true k a b d = a_tuple b
    go false false true a b d = a_lambda d
    go false false false a b d = differ h (val_else c a b d)

exp_form : (c : ℕ) → admits exp c ≡ true → Form c
exp_form c h = go (applied c) (sequenced c) (joined c) refl refl refl
  where
    go : (i j k : Bool) → applied c ≡ i → sequenced c ≡ j → joined c ≡ k → Form c
    go true j k a b d = an_application a
    go false true k a b d = a_sequence b
    go false false true a b d = a_join d
    go false false false a b d = val_form c (sym (exp_else c a b d) ∙ h)

pub form_of : (s : Sort) (c : ℕ) → admits s c ≡ true → Form c
unfolding admits
form_of val c h = val_form c h
form_of hnf c h = val_form c (ap (λ b. form 0 0 0 c || b) h ∙ or-true (form 0 0 0 c))
form_of exp c h = exp_form c h
form_of equ c h = go (equated c) refl
  where
    go : (i : Bool) → equated c ≡ i → Form c
    go true a = an_equation a
    go false a = exp_form c (sym (equ_else c a) ∙ h)

-- the tree of a lawful term's cells
pub term_tree : {cells : List ℕ} (t : Row) → Term t → flat t ≡ cells → TreeOf cells t
term_tree t h e = record { one = lawful_width admits kids (exp ∷ []) t h; counted = lawful_counted (exp ∷ []) t h; reads = e }
