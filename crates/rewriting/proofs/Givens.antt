-- Bindings put for the variables of a right side. Assumes nothing.
use Rattle.std.proofs.Common.{◌≡◌, ℕ, ◌<◌, ◌≤◌, Bool, true, false, cond, ltb, List, length, get_or, take, sym, refl, ap, ◌∙◌, subst, arith, Bor}
use Rattle.std.proofs.lemmas.Bool.Decides.{nat_tests}
use Rattle.std.proofs.lemmas.List.{get_or-take, length-take-le}
use Rattle.terms.specs.Rows.{Row, Free, var, substitute}
use Rattle.moves.specs.declared.images.Image.TheVariants.{Tree, Number}
use Rattle.moves.specs.declared.images.Substitution.{Substitution}
use Rattle.moves.specs.declared.images.Substitution.TheVariants.{Bindings}
use Rattle.moves.specs.Images.{nothing, Shown, Shows}
use Rattle.lets.specs.Figure.{binding}
use Rattle.lets.proofs.MoreLaws.{substitute_same}
use Rattle.rewriting.specs.Matchings.{Bound}
use Rattle.rewriting.proofs.Askings.{spelled_tree}
use Rattle.rewriting.proofs.SideBySide.{each_term}

-- the first n values are n bindings
pub bound_front : {θ : Row} {n : ℕ} {values : List (Bor (List ℕ))} (m : ℕ) → m ≡ n → n ≤ length values → Bound θ n values → Bound θ (length (take m values)) (take m values)
bound_front {θ} {n} {values} m e h b =
    let l : length (take m values) ≡ m = length-take-le m values (omega arith) in
    record {
      wide = b.wide ∙ sym e ∙ sym l;
      terms = b.terms;
      reads = λ x k. b.reads x (omega arith) ∙ ap (λ v. v.now) (sym (get_or-take m values x nothing (omega arith)));
    }

-- a binding for each number below n, and every other number for itself
abbrev pub given : Row → ℕ → ℕ → Row
given θ n m = cond (ltb m n) (binding θ m) (var m)

pub shows_bound : {θ : Row} (values : Bor (List (Bor (List ℕ)))) → Bound θ (length values.now) values.now → Shows (Bindings values) (given θ (length values.now))
shows_bound {θ} values b m = go (ltb m (length values.now)) refl
  where
    go : (q : Bool) → ltb m (length values.now) ≡ q → Shown (cond q (Tree (get_or values.now m nothing)) (Number m)) (cond q (binding θ m) (var m))
    go true e =
        let l : m < length values.now = grind (arith, nat_tests) in
        spelled_tree (binding θ m) (each_term θ m b.terms (omega (arith, b.wide))) (b.reads m l)
    go false e = refl

pub shows_given : {θ : Row} {how : Substitution} {values : Bor (List (Bor (List ℕ)))} → how ≡ Bindings values → Bound θ (length values.now) values.now → Shows how (given θ (length values.now))
shows_given {θ} {values = values} e b = subst (λ h. Shows h (given θ (length values.now))) (sym e) (shows_bound values b)

-- where a term has no others, only the bindings are put
pub given_same : (θ : Row) (n : ℕ) (r : Row) → ((x : ℕ) → Free x r → x < n) → substitute (given θ n) 0 0 r ≡ substitute (binding θ) 0 0 r
given_same θ n r h =
    substitute_same (given θ n) (binding θ) 0 0 r (λ x f.
    let l = h x f in
    let q : ltb x n ≡ true = grind (arith, nat_tests) in
    ap (λ b. cond b (binding θ x) (var x)) q)
