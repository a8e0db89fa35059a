-- The kinds of cells by their numbers. Assumes nothing.
use Rattle.std.proofs.Common.{◌≡◌, ℕ, cond, eqb, sym, refl, ap, ◌∙◌}
use Rattle.verse.specs.Kind.{number_of}
use Rattle.verse.specs.declared.kind.Kind.{Kind}
use Rattle.verse.specs.declared.kind.Kind.TheVariants.{Variable, Integer, Operator, Tuple, Lambda, Application, Sequence, Equation, Exists, Fail, Choice, One, All}

kind_of : ℕ → Kind
kind_of n =
    cond (eqb n 0) Variable (cond (eqb n 1) Integer (cond (eqb n 2) Operator (cond (eqb n 3) Tuple (cond (eqb n 4) Lambda (cond (eqb n 5) Application (cond (eqb n 6) Sequence (cond (eqb n 7) Equation (cond (eqb n 8) Exists (cond (eqb n 9) Fail (cond (eqb n 10) Choice (cond (eqb n 11) One All)))))))))))

kind_of-number_of : (k : Kind) → kind_of (number_of k) ≡ k
unfolding kind_of
kind_of-number_of Variable = refl
kind_of-number_of Integer = refl
kind_of-number_of Operator = refl
kind_of-number_of Tuple = refl
kind_of-number_of Lambda = refl
kind_of-number_of Application = refl
kind_of-number_of Sequence = refl
kind_of-number_of Equation = refl
kind_of-number_of Exists = refl
kind_of-number_of Fail = refl
kind_of-number_of Choice = refl
kind_of-number_of One = refl
kind_of-number_of All = refl

-- kinds of one number are one kind
pub same_kind : (j k : Kind) → number_of j ≡ number_of k → j ≡ k
same_kind j k e = sym (kind_of-number_of j) ∙ ap kind_of e ∙ kind_of-number_of k
