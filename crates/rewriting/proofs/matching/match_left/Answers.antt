use Rattle.std.proofs.Common.{◌≡◌, get_or, drop, set, sym, refl, ap, ◌∙◌, arith}
use Rattle.terms.specs.Cells.{kind}
use Rattle.terms.proofs.Steps.{size_within}
use Rattle.rewriting.proofs.Halfway.{going_start, going_as, going_front, going_end, first_below, variable_below, variable_term, variable_passed, other_cell, symbol_passed}
use Rattle.rewriting.proofs.matching.match_left.Goals as goal
use Rattle.rewriting.proofs.matching.match_left.Goals.{then-kind, else-kind+in_ok-first+else-first-c}

pub loop-c-init : goal.loop-c-init
loop-c-init c = (omega arith, λ p ts f. going_start _ f)

pub invariant_of-first : goal.invariant_of-first
invariant_of-first c =
    let g = going_front (c.loop-c.invariant.1 c.requires.0 c.requires.1 c.requires.2) (omega arith) in
    record { standing = ∣ (_, variable_term g.half (omega arith) (omega (arith, c.kind.ensures))) ∣₁ }

pub bounds-values-payload : goal.bounds-values-payload
bounds-values-payload c =
    let f = c.requires.2 in
    let g = going_front (c.loop-c.invariant.1 c.requires.0 c.requires.1 f) (omega arith) in
    let b = variable_below g.half (omega arith) (omega (arith, c.kind.ensures)) f.once in
    omega (arith, c.payload.ensures, b, f.few)

pub split_at-requires : goal.split_at-requires
split_at-requires c =
    let g = going_front (c.loop-c.invariant.1 c.requires.0 c.requires.1 c.requires.2) (omega arith) in
    let s = variable_term g.half (omega arith) (omega (arith, c.kind.ensures)) in
    omega (arith, c.end.ensures _ s, size_within s)

pub returns-in_err-first : goal.returns-in_err-first
returns-in_err-first c = λ p ts f.
    let g = going_front (c.loop-c.invariant.1 p ts f) (omega arith) in
    let z = c.in_err-first.ensures.cases in
    absurd (omega (arith, first_below g.half (omega arith)))

pub returns-then-first-c : goal.returns-then-first-c
returns-then-first-c c = λ p ts f.
    let g = going_front (c.loop-c.invariant.1 p ts f) (omega arith) in
    other_cell g.half (omega arith) (λ k. omega (arith, k, c.kind.ensures)) (λ e. c.if-first-c.true (sym (ap (λ l. get_or l 0 0) c.in_ok-first.ensures.cases.0) ∙ e))

pub loop-c-preserved : goal.loop-c-preserved
loop-c-preserved c =
    elim c.if-kind.branch [
      | then-kind w ↦ (
        omega (arith, w.n-is),
        λ p ts f.
            let g = going_front (c.loop-c.invariant.1 p ts f) (omega arith) in
            let k : kind (get_or c.args.patterns.now c.loop-c.c-index 0) ≡ 0 = omega (arith, c.kind.ensures, w.if-kind.true) in
            let e = w.end.ensures _ (variable_term g.half (omega arith) k) in
            let v = variable_passed g.half (omega arith) k f.once w.end.result _ (omega (arith, f.few)) (omega (arith, e)) w.split_at.ensures.front in
            going_as v (ap (λ b. b.now) w.rest-is ∙ w.split_at.ensures.back) (w.values-is ∙ ap (λ x. set c.loop-c.values x w.split_at.result.0) w.payload.ensures) refl w.n-is,
      )
      | else-kind+in_ok-first+else-first-c w ↦ (
        omega (arith, w.n-is),
        λ p ts f.
            let g = going_front (c.loop-c.invariant.1 p ts f) (omega arith) in
            let v = symbol_passed g.half (omega arith) (λ k. omega (arith, k, c.kind.ensures, w.if-kind.false)) (ap (λ l. get_or l 0 0) w.in_ok-first.ensures.cases.0 ∙ w.if-first-c.false) in
            going_as v (ap (λ b. b.now) w.rest-is ∙ sym (ap (drop 1) w.in_ok-first.ensures.cases.0)) w.values-is refl w.n-is,
      )
    ]

pub returns : goal.returns
returns c = λ p ts f. going_end f (going_as (c.loop-c.invariant.1 p ts f) refl refl (omega arith) refl)
