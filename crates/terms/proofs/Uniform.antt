-- A sort whose children are of that sort again: counted trees are lawful exactly where it admits each of their cells.
use Rattle.std.proofs.Common.{◌≡◌, ℕ, zero, suc, Bool, true, List, replicate, sym, subst, arith}
use Rattle.terms.specs.Cells.{children}
use Rattle.terms.specs.Lists.{All}
use Rattle.terms.specs.Rows.{Row, flat, width, Counted}
use Rattle.terms.specs.Rows.Row.{none, node}
use Rattle.terms.specs.Grammar.{Lawful}
use Rattle.terms.proofs.Entries.{all-++, all_apart}

module _ {S : Type 0} (admits : S → ℕ → Bool) (kids : S → ℕ → List S) (s : S) (again : (c : ℕ) → kids s c ≡ replicate (children c) s) where
  pub admitted_lawful : (n : ℕ) (t : Row) → width t ≡ n → Counted t → All (λ c. admits s c ≡ true) (flat t) → Lawful admits kids (replicate n s) t
  admitted_lawful zero none w g a = tt
  admitted_lawful (suc n) none w g a = absurd (omega arith)
  admitted_lawful zero (node c ks r) w g a = absurd (omega arith)
  admitted_lawful (suc n) (node c ks r) w g a =
      let q = all_apart (λ c. admits s c ≡ true) (flat ks) (flat r) a.1 in
      (a.0, subst (λ ss. Lawful admits kids ss ks) (sym (again c)) (admitted_lawful (children c) ks (sym g.1) g.2 q.0), admitted_lawful n r (omega arith) g.3 q.1)

  pub lawful_admitted : (n : ℕ) (t : Row) → Lawful admits kids (replicate n s) t → All (λ c. admits s c ≡ true) (flat t)
  lawful_admitted zero none h = tt
  lawful_admitted (suc n) none h = absurd h
  lawful_admitted zero (node c ks r) h = absurd h
  lawful_admitted (suc n) (node c ks r) h =
      (h.0, all-++ (λ c. admits s c ≡ true) (flat ks) (flat r) (lawful_admitted (children c) ks (subst (λ ss. Lawful admits kids ss ks) (again c) h.1)) (lawful_admitted n r h.2))
