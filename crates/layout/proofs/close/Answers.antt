use Rattle.std.proofs.Common.{rules, ℕ, ◌+◌, ◌<◌, ◌≤◌, length, get_or, sym, subst, arith}
use Rattle.layout.specs.Open.{blank, Follows}
use Rattle.terms.specs.Layout.{onward}
use Rattle.layout.proofs.Opens.{closed_to, closed_all, closed_next}
use Rattle.layout.proofs.close.Goals as goal

pub returns-in_err-top : goal.returns-in_err-top
returns-in_err-top c =
    λ up e h.
    let few : (k : ℕ) → k < length c.args.walk.now → (get_or c.args.walk.now k blank).left ≤ 1 = search rules in
    subst (Follows c.args.walk.now (onward up)) (sym c.from_residual.ensures) (closed_all _ up (closed_to _ up 0 (omega arith) h (λ k a b. few k (omega arith))))

pub returns : goal.returns
returns c =
    λ up e h.
    let top = c.in_ok-top.top in
    let within : top < length c.args.walk.now = search rules in
    let more : 1 < (get_or c.args.walk.now top blank).left = search rules in
    let few : (k : ℕ) → top + 1 ≤ k → k < length c.args.walk.now → (get_or c.args.walk.now k blank).left ≤ 1 = search rules in
    closed_next _ up top within more (closed_to _ up (top + 1) (omega arith) h (λ k a b. few k a (omega arith)))
