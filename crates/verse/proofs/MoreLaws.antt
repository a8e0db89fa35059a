-- The two laws for the whole figure.
use Rattle.std.proofs.Common.{ℕ, zero, suc, ◌-◌, ◌≤◌, List, [], ◌∷◌, get_or, ⊎_elim, arith}
use Rattle.calculus.specs.Line.{Gives}
use Rattle.terms.specs.Rows.{Row, size, Free, Below, pick}
use Rattle.terms.specs.Rows.Row.{none, node}
use Rattle.verse.specs.Syntax.{Term}
use Rattle.verse.specs.Lines.{Rule}
use Rattle.verse.specs.Figure.{figure, line}
use Rattle.verse.specs.Laws.{Held, FirstOf, SecondOf, FirstLaw, SecondLaw}
use Rattle.verse.specs.Meaning.{KeepsLaws}
use Rattle.verse.proofs.Within.{Within, FirstWithin, SecondWithin, first_held, second_held, first_short, second_short}
use Rattle.verse.proofs.Meaning.{suffices, subst_grows}
use Rattle.verse.proofs.Laws.{val_elim_first, val_elim_second, beta_first, beta_second, exi_elim_first, exi_elim_second, some_laws}
use Rattle.verse.proofs.Places.{sites}
use Rattle.verse.proofs.MoreLawsEasy.{first_1, second_1, first_2, second_2, first_3, second_3, first_6, second_6, first_7, second_7, first_8, second_8, first_9, second_9, first_10, second_10, first_12, second_12, first_13, second_13, first_14, second_14, first_18, second_18, first_20, second_20, first_21, second_21, first_23, second_23, first_24, second_24, first_25, second_25, first_26, second_26, first_27, second_27, first_28, second_28, first_29, second_29, first_30, second_30, first_31, second_31, first_32, second_32}
use Rattle.verse.proofs.MoreLawsMoves.{first_5, second_5, first_17, second_17, first_19, second_19, first_22, second_22}

abbrev FirstRule : Rule → Type 0
FirstRule r = (inner : List ℕ) (t u : Row) → Within t u → Gives (r inner t) u → Term u

abbrev SecondRule : Rule → Type 0
SecondRule r = (inner : List ℕ) (t u : Row) → Within t u → Gives (r inner t) u → (x : ℕ) → Free x u → Free x t

-- 11 SUBST: the given term is no shorter than the redex
held_11 : (inner : List ℕ) (t u : Row) → Within t u → Gives (line 11 inner t) u → Held t
held_11 inner t u h g = record { lawful = h.lawful; low = h.low; short = ⊎_elim (λ l. l) (λ l. omega (arith, l, subst_grows inner t u g)) h.within }

first_11 : FirstWithin 11
first_11 inner t u h g = some_laws.3.0 inner t u (held_11 inner t u h g) g

second_11 : SecondWithin 11
second_11 inner t u h g = some_laws.3.1 inner t u (held_11 inner t u h g) g

-- of every rule of a list
abbrev All : (Rule → Type 0) → List Rule → Type 0
All P [] = Unit {0}
All P (r ∷ rs) = P r × All P rs

numbered : (P : Rule → Type 0) (rs : List Rule) (d : Rule) → All P rs → P d → (i : ℕ) → P (get_or rs i d)
numbered P [] d h k i = k
numbered P (r ∷ rs) d h k zero = h.0
numbered P (r ∷ rs) d h k (suc i) = numbered P rs d h.1 k i

firsts : All FirstRule figure
firsts = (first_1, (first_2, (first_3, (beta_first, (first_5, (first_6, (first_7, (first_8, (first_9, (first_10, (first_11, (first_12, (first_13, (first_14, (val_elim_first, (exi_elim_first, (first_17, (first_18, (first_19, (first_20, (first_21, (first_22, (first_23, (first_24, (first_25, (first_26, (first_27, (first_28, (first_29, (first_30, (first_31, (first_32, tt))))))))))))))))))))))))))))))))

seconds : All SecondRule figure
seconds = (second_1, (second_2, (second_3, (beta_second, (second_5, (second_6, (second_7, (second_8, (second_9, (second_10, (second_11, (second_12, (second_13, (second_14, (val_elim_second, (exi_elim_second, (second_17, (second_18, (second_19, (second_20, (second_21, (second_22, (second_23, (second_24, (second_25, (second_26, (second_27, (second_28, (second_29, (second_30, (second_31, (second_32, tt))))))))))))))))))))))))))))))))

within_first : (n : ℕ) → FirstWithin n
within_first n = numbered FirstRule figure _ firsts (λ inner t u h g. absurd g.0) (n - 1)

within_second : (n : ℕ) → SecondWithin n
within_second n = numbered SecondRule figure _ seconds (λ inner t u h g x f. absurd g.0) (n - 1)

pub first_of : (n : ℕ) → FirstOf n
first_of n = first_held n (within_first n)

pub second_of : (n : ℕ) → SecondOf n
second_of n = second_held n (within_second n)

pub keeps_laws : KeepsLaws
keeps_laws = suffices (λ n h. (first_short n (within_first n), second_short n (within_second n)))

-- a part of a term is held as it is
pick_size : (t : Row) (i : ℕ) (p : List ℕ) → size (pick t i p) ≤ size t
pick_size none i p = omega arith
pick_size (node c ks r) zero [] = omega arith
pick_size (node c ks r) zero (j ∷ p) = omega (arith, pick_size ks j p)
pick_size (node c ks r) (suc i) p = omega (arith, pick_size r i p)

pick_below : (m : ℕ) (t : Row) (i : ℕ) (p : List ℕ) → Below m t → Below m (pick t i p)
pick_below m none i p b = tt
pick_below m (node c ks r) zero [] b = (b.0, b.1, tt)
pick_below m (node c ks r) zero (j ∷ p) b = pick_below m ks j p b.1
pick_below m (node c ks r) (suc i) p b = pick_below m r i p b.2

pub first_law : FirstLaw
first_law whole place n argument inner u h s g =
    let w = sites whole place h.lawful s in
    let held : Held (pick whole 0 place) = record { lawful = w.0; low = pick_below 65535 whole 0 place h.low; short = omega (arith, pick_size whole 0 place, h.short) } in
    w.1 u (first_of n inner (pick whole 0 place) u held g.2)

pub second_law : SecondLaw
second_law n argument inner t u h g = second_of n inner t u h g.2
