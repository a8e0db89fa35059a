use Rattle.std.proofs.Common.{◌+◌, ◌<◌, ◌≤◌, true, false, length, set, sym, ◌∙◌, subst, arith}
use Rattle.std.proofs.lemmas.Bool.Decides.{nat_tests}
use Rattle.lets.specs.Checks.{Numbered}
use Rattle.lets.proofs.Countings.{Seen, seen_none, seen_other, seen_more, not_low, not_new}
use Rattle.lets.proofs.program.variables.Goals as goal
use Rattle.lets.proofs.program.variables.Goals.{then-kind+in_ok-get+else-branch as is_new, else-kind as is_other}

pub loop-c-init : goal.loop-c-init
loop-c-init c = seen_none c.args.cells.now

pub returns-in_err-get : goal.returns-in_err-get
returns-in_err-get c =
    let far : 1024 ≤ c.payload-x.result = grind (arith, nat_tests, c.in_err-get.ensures.lookup) in
    subst (Numbered c.args.cells.now) (sym c.from_residual.ensures) (not_low c.args.cells.now c.loop-c.c-index c.loop-c.n c.payload-x.result c.loop-c.seen (omega arith) (omega arith) (omega arith) c.loop-c.invariant far)

pub returns-then-branch : goal.returns-then-branch
returns-then-branch c =
    let near : c.payload-x.result < length c.loop-c.seen = grind (arith, nat_tests, c.in_ok-get.ensures.lookup) in
    not_new c.args.cells.now c.loop-c.c-index c.loop-c.n c.payload-x.result c.loop-c.seen (omega arith) (omega arith) (omega arith) c.loop-c.invariant (omega arith) (sym (c.in_ok-get.ensures.lookup.4 (omega arith) false) ∙ c.if-branch.true)

pub loop-c-preserved : goal.loop-c-preserved
loop-c-preserved c =
    let cells = c.args.cells.now in
    let i = c.loop-c.c-index in
    elim c.if-kind.branch [
      | is_new w ↦
          let near : w.payload-x.result < length c.loop-c.seen = grind (arith, nat_tests, w.in_ok-get.ensures.lookup) in
          let s : Seen cells (i + 1) (c.loop-c.n + 1) (set c.loop-c.seen w.payload-x.result true) =
          seen_more cells i c.loop-c.n w.payload-x.result c.loop-c.seen (omega arith) (omega arith) (omega arith) c.loop-c.invariant (omega arith) (sym (w.in_ok-get.ensures.lookup.4 (omega arith) false) ∙ w.if-branch.false) in
          subst (λ n. Seen cells (i + 1) n c.if-kind.seen) (sym w.n-is) (subst (λ l. Seen cells (i + 1) (c.loop-c.n + 1) l) (sym w.seen-is) s)
      | is_other w ↦
          let s : Seen cells (i + 1) c.loop-c.n c.loop-c.seen = seen_other cells i c.loop-c.n c.loop-c.seen (omega arith) (omega arith) c.loop-c.invariant in
          subst (λ n. Seen cells (i + 1) n c.if-kind.seen) (sym w.n-is) (subst (λ l. Seen cells (i + 1) c.loop-c.n l) (sym w.seen-is) s)
    ]
