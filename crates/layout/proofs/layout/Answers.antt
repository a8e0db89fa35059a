use Rattle.std.proofs.Common.{rules, ◌≡◌, ◌≤◌, length, ℕ, List, Result, Ok, Err, sym, subst, arith}
use Rattle.std.proofs.lemmas.Slice.{drop-append-drop}
use Rattle.std.specs.Result.{MatchResult}
use Rattle.layout.specs.Answers.{Answered}
use Rattle.layout.specs.declared.Fault.{Fault}
use Rattle.layout.specs.declared.Fault.TheVariants.{Cell}
use Rattle.terms.specs.Layout.{LayoutJudged}
use Rattle.layout.proofs.layout.Goals as goal

answered : (w : ℕ) (cells : List ℕ) (r : Result (ℕ × ℕ) ℕ) (s : Result (ℕ × ℕ) Fault) → 256 ≤ w → LayoutJudged cells r → MatchResult r (λ v. s ≡ Ok v) (λ i. s ≡ Err (Cell i)) → Answered w cells s
answered w cells (Ok v) s l j e = subst (Answered w cells) (sym e) (l, j)
answered w cells (Err i) s l j e = subst (Answered w cells) (sym e) (l, j)

pub returns-clause-answer : goal.returns-clause-answer
returns-clause-answer c =
    let enough : 256 ≤ length c.args.walk.now = search rules in
    let told : MatchResult c.laid.result (λ v. c.map_err.result ≡ Ok v) (λ i. c.map_err.result ≡ Err (Cell i)) = search rules in
    answered _ _ _ _ enough c.laid.ensures.judged told

pub returns-clause-past : goal.returns-clause-past
returns-clause-past c = drop-append-drop 256 c.args.walk.now c.laid.new.walk 256 (omega arith) c.laid.ensures.records
