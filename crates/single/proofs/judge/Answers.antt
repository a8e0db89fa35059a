use Rattle.std.proofs.Common.{rules, ◌≡◌, ℕ, ◌<◌, length, get_or, take, Ok, Err, sym, subst, arith}
use Rattle.layout.specs.Answers.{Answered}
use Rattle.single.specs.Verdicts.{TermJudged}
use Rattle.single.proofs.Spelling.{refused, left}
use Rattle.single.proofs.judge.Goals as goal

pub returns-in_err-count-clause-answer : goal.returns-in_err-count-clause-answer
returns-in_err-count-clause-answer c =
    let bytes = c.args.bytes.now in
    let old = c.args.cells.now in
    let new = c.read_cells-n.new.cells in
    let n = c.read_cells-n.result in
    let w = length c.args.walk.now in
    let fit : (i : ℕ) → get_or bytes i 0 < 256 = λ i. omega (arith, c.type_inv.bytes i) in
    let f = c.in_err-count.field-0.0 in
    let was : c.layout.result ≡ Err f = search rules in
    let is : c.from_residual.result ≡ Err f = search rules in
    let a = subst (Answered w (take n new)) was c.layout.ensures.answer in
    subst (TermJudged (length old) w bytes) (sym is) (refused bytes old new n c.read_cells-n.ensures fit (omega arith) c.read_cells-n.auto.cells w f a)

pub returns-then-bytes-n-clause-answer : goal.returns-then-bytes-n-clause-answer
returns-then-bytes-n-clause-answer c =
    let bytes = c.args.bytes.now in
    let old = c.args.cells.now in
    let new = c.read_cells-n.new.cells in
    let n = c.read_cells-n.result in
    let w = length c.args.walk.now in
    let fit : (i : ℕ) → get_or bytes i 0 < 256 = λ i. omega (arith, c.type_inv.bytes i) in
    let was : c.layout.result ≡ Ok (c.in_ok-count.count, c.in_ok-count.depth) = search rules in
    let a = subst (Answered w (take n new)) was c.layout.ensures.answer in
    left bytes old new n c.read_cells-n.ensures fit (omega arith) c.read_cells-n.auto.cells w _ _ a (λ e. omega arith)
