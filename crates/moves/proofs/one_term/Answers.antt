use Rattle.std.proofs.Common.{ap, arith}
use Rattle.terms.specs.Rows.{size}
use Rattle.terms.proofs.Standings.{stands_same}
use Rattle.moves.proofs.Calls.{term_stands, term_size, stands_term}
use Rattle.moves.proofs.one_term.Goals as goal

pub returns-in_err-end : goal.returns-in_err-end
returns-in_err-end c = rw c.from_residual.ensures (λ t is. c.in_err-end.ensures t (term_stands is))

pub returns-then-end-cells : goal.returns-then-end-cells
returns-then-end-cells c = λ u is.
    let e = c.in_ok-end.ensures in
    absurd (omega (arith, e.2, ap size (stands_same e.1 (term_stands is)), term_size is))

pub returns : goal.returns
returns c =
    let e = c.in_ok-end.ensures in
    (e.0, stands_term e.1 (omega (arith, e.2)), e.1)
