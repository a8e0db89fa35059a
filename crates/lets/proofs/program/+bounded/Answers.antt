use Rattle.std.proofs.Common.{◌≡◌, ℕ, ◌+◌, ◌⊎◌, ◌<◌, ◌≤◌, length, sym, ap, subst, inl, inr, arith}
use Rattle.std.proofs.lemmas.Bool.Decides.{not_from_Decides}
use Rattle.terms.proofs.Standings.{standing}
use Rattle.lets.specs.Checks.{Bounded}
use Rattle.lets.proofs.Bounds.{none_passed, left_within, own_large, kids_large, passed_more, passed_all}
use Rattle.lets.proofs.program.+bounded.Goals as goal
use Rattle.lets.proofs.program.+bounded.Goals.{then-left-eq1, else-left-eq1, In-Some, Joined-left-eq1}

-- the binders over the tree that comes
over_is : (t : ℕ) (c : goal.Joined-left-eq1 t) → ((c.loop-c.left.n ≡ 1) × (c.if-left-eq1.over ≡ c.args.above + c.args.more)) ⊎ ((c.loop-c.left.n ≡ 1 → ⊥) × (c.if-left-eq1.over ≡ c.args.above))
over_is t c = elim c.if-left-eq1.branch [ then-left-eq1 w ↦ inl (w.if-left-eq1.true, w.over-is) | else-left-eq1 w ↦ inr (w.if-left-eq1.false, w.over-is) ]

-- its cell is one of the cells
within : (t : ℕ) (c : goal.In-Some t) → (c.args.trees.at ≤ c.loop-c.left.at) × (c.loop-c.left.at < length c.args.trees.cells.now)
within t c = let q = standing c.args.trees.standing in left_within _ _ _ _ _ _ (c.loop-c.invariant q.0 q.1) _ _ c.in-Some.ensures

pub loop-c-init : goal.loop-c-init
loop-c-init t c = λ u s. none_passed _ _ _ _ u s

pub is_large-requires : goal.is_large-requires
is_large-requires t c =
    let w = within t (goal.at.is_large-requires t c).In-Some in
    elim c.if-left-eq1.branch [ then-left-eq1 v ↦ omega (arith, v.over-is) | else-left-eq1 v ↦ omega (arith, v.over-is) ]

pub returns-then-is_large : goal.returns-then-is_large
returns-then-is_large t c = λ u s.
    own_large _ _ _ _ _ u (c.loop-c.invariant u s) _ _ c.in-Some.ensures _ (over_is t (goal.at.returns-then-is_large t c).Joined-left-eq1) (c.is_large.ensures.0 c.if-is_large.true)

pub bounded-requires : goal.bounded-requires
bounded-requires t c =
    let w = within t (goal.at.bounded-requires t c).In-Some in
    let h = standing c.args.trees.standing in
    let part = c.in-Some.ensures.2 in
    let q = part.start in
    let few : c.if-left-eq1.over + c.binder.result ≤ c.in-Some.below.at =
    elim c.if-left-eq1.branch [ then-left-eq1 v ↦ omega (arith, v.over-is) | else-left-eq1 v ↦ omega (arith, v.over-is) ] in
    (omega (arith, ap length part.cells, ap length (c.loop-c.invariant h.0 h.1).same), (few, omega arith))

pub returns-in_err-bounded : goal.returns-in_err-bounded
returns-in_err-bounded t c =
    subst (Bounded c.args.bound c.args.above c.args.more c.args.trees.n c.args.trees.cells.now c.args.trees.at) (sym c.from_residual.ensures) (λ u s.
    kids_large _ _ _ _ _ u (c.loop-c.invariant u s) _ _ c.in-Some.ensures _ (over_is t (goal.at.returns-in_err-bounded t c).Joined-left-eq1) _ c.binder.ensures c.in_err-bounded.ensures)

pub loop-c-preserved : goal.loop-c-preserved
loop-c-preserved t c = λ u s.
    passed_more _ _ _ _ _ u (c.loop-c.invariant u s) _ _ c.in-Some.ensures _ (over_is t (goal.at.loop-c-preserved t c).Joined-left-eq1) _ c.binder.ensures _ _ (not_from_Decides _ c.is_large.ensures c.if-is_large.false) c.in_ok-bounded.ensures c.others-left.ensures

pub returns : goal.returns
returns t c = λ u s. passed_all _ _ _ _ _ u (c.loop-c.invariant u s) c.in_default.ensures
