-- The records of the open cells: what a write leaves, the binders above, and what closing comes to. Assumes nothing.
use Rattle.std.proofs.Common.{◌≡◌, ℕ, suc, ◌+◌, ◌-◌, ◌<◌, ◌≤◌, true, false, cond, eqb, ◌≢◌, List, [], ◌∷◌, length, get_or, set, take, ◌++◌, Bool, leb, Some, None, Option, sym, refl, ap, ◌∙◌, subst, arith}
use Rattle.std.proofs.lemmas.List.{get_or-set_same, get_or-set_other, get_or-take, get_or_append_left, get_or_past, length-take-le}
use Rattle.std.proofs.lemmas.Bool.Decides.{nat_tests}
use Rattle.layout.specs.declared.Walk.{Walk}
use Rattle.layout.specs.Open.{blank, first, Stands, Holds, Follows}
use Rattle.terms.specs.Cells.{binder, children}
use Rattle.terms.specs.Layout.{Parent, onward, next, binders}
use Rattle.terms.proofs.Walks.{onward_last, onward_more, next_in}

-- the records of the cells above are all that counts
pub holds_same : (walk other : List Walk) (up : List Parent) → ((i : ℕ) → i < length up → get_or walk i blank ≡ get_or other i blank) → Holds walk up → Holds other up
holds_same walk other [] e o = tt
holds_same walk other (p ∷ up) e o =
    (subst (λ v. Stands v p up) (e (length up) (omega arith)) o.0, holds_same walk other up (λ i l. e i (omega arith)) o.1)

-- a record that is written above them leaves those of the cells above
pub holds_set : (walk : List Walk) (i : ℕ) (w : Walk) (up : List Parent) → length up ≤ i → Holds walk up → Holds (set walk i w) up
holds_set walk i w up h = holds_same walk (set walk i w) up (λ k l. let ne : k ≢ i = omega arith in sym (get_or-set_other walk i k w blank ne))

-- there is a record for each cell above
pub holds_within : (walk : List Walk) (up : List Parent) → Holds walk up → length up ≤ length walk
holds_within walk [] o = omega arith
holds_within walk (p ∷ up) o = go (leb (length walk) (length up)) refl
  where
    go : (b : Bool) → leb (length walk) (length up) ≡ b → length (p ∷ up) ≤ length walk
    go true e =
        let past : length walk ≤ length up = grind (arith, nat_tests) in
        let none = ap (λ (w : Walk). w.left) (get_or_past walk (length up) blank past) in
        absurd (omega (arith, none, o.0.more))
    go false e = grind (arith, nat_tests)

-- the records of the cells above, alone
pub held_front : (walk : List Walk) (n : ℕ) (up : List Parent) → n ≡ length up → Holds walk up → (length (take n walk) ≡ length up) × Holds (take n walk) up
held_front walk n up e o =
    let l = holds_within walk up o in
    (length-take-le n walk (omega arith) ∙ e, holds_same walk (take n walk) up (λ i h. sym (get_or-take n walk i blank (omega arith))) o)

-- more records above them
pub follows_more : (walk rest : List Walk) (u : Option (List Parent)) (r : Option ℕ) → Follows walk u r → Follows (walk ++ rest) u r
follows_more walk rest None None f = tt
follows_more walk rest None (Some n) f = f
follows_more walk rest (Some up) None f = f
follows_more walk rest (Some up) (Some n) f =
    let h = holds_within walk up f.1 in
    (f.0, holds_same walk (walk ++ rest) up (λ i l. sym (get_or_append_left walk rest blank i (omega arith))) f.1)

-- one record more
pub holds_push : (walk : List Walk) (i : ℕ) (w : Walk) (p : Parent) (up : List Parent) → i ≡ length up → i < length walk → Stands w p up → Holds walk up → Holds (set walk i w) (p ∷ up)
holds_push walk i w p up e h s o =
    let same : get_or (set walk i w) (length up) blank ≡ w = ap (λ n. get_or (set walk i w) n blank) (sym e) ∙ get_or-set_same walk i w blank h in
    (subst (λ v. Stands v p up) (sym same) s, holds_set walk i w up (omega arith) o)

-- no cell has more than one binder, so there are at most as many as cells above
pub binders_le : (up : List Parent) → binders up ≤ length up
binders_le [] = omega arith
binders_le (p ∷ up) = let h = binders_le up in grind (arith, nat_tests)

binders_last : (w : Walk) (p : Parent) (up : List Parent) → Stands w p up → w.left ≡ 1 → w.last ≡ binders (p ∷ up)
binders_last w p up s h =
    let e : eqb (p.child + 1) (children p.cell) ≡ true = (let l = s.left in grind (arith, nat_tests)) in
    let f = ap (λ t. cond t (binder p.cell) 0 + binders up) e in
    omega (arith, f, s.last)

binders_more : (w : Walk) (p : Parent) (up : List Parent) → Stands w p up → w.left ≢ 1 → w.above ≡ binders (p ∷ up)
binders_more w p up s h =
    let e : eqb (p.child + 1) (children p.cell) ≡ false = (let l = s.left in grind (arith, nat_tests)) in
    let f = ap (λ t. cond t (binder p.cell) 0 + binders up) e in
    omega (arith, f, s.above)

-- the nearest record is the last
nearest : (walk : List Walk) (w : Walk) (p : Parent) (up : List Parent) → get_or walk (length walk - 1) blank ≡ w → length walk ≡ length (p ∷ up) → Holds walk (p ∷ up) → Stands w p up
nearest walk w p up is e o =
    let n : length up ≡ length walk - 1 = omega arith in
    subst (λ v. Stands v p up) (ap (λ i. get_or walk i blank) n ∙ is) o.0

-- the binders above the coming cell, as the nearest record has them
pub last_above : (walk : List Walk) (w : Walk) (up : List Parent) → get_or walk (length walk - 1) blank ≡ w → length walk ≡ length up → 0 < length walk → Holds walk up → w.left ≡ 1 → w.last ≡ binders up
last_above walk w [] is e l o h = absurd (omega arith)
last_above walk w (p ∷ up) is e l o h = binders_last w p up (nearest walk w p up is e o) h

pub more_above : (walk : List Walk) (w : Walk) (up : List Parent) → get_or walk (length walk - 1) blank ≡ w → length walk ≡ length up → 0 < length walk → Holds walk up → w.left ≢ 1 → w.above ≡ binders up
more_above walk w [] is e l o h = absurd (omega arith)
more_above walk w (p ∷ up) is e l o h = binders_more w p up (nearest walk w p up is e o) h

-- of the cells above a finished term, those from `top` on are closed
pub record Closed (walk : List Walk) (up : List Parent) (top : ℕ) : Type 0 where
  pub over : List Parent
  pub high : top ≡ length over
  pub holds : Holds walk over
  pub same : onward up ≡ onward over

-- a cell of which the last child is finished is closed too
pub closed_to : (walk : List Walk) (up : List Parent) (top : ℕ) → top ≤ length up → Holds walk up → ((k : ℕ) → top ≤ k → k < length up → (get_or walk k blank).left ≤ 1) → Closed walk up top
closed_to walk [] top l o few = record { over = []; high = omega arith; holds = o; same = refl }
closed_to walk (p ∷ up) top l o few = go (eqb top (suc (length up))) refl (λ h. closed_to walk up top h o.1 (λ k a b. few k a (omega arith)))
  where
    go : (b : Bool) → eqb top (suc (length up)) ≡ b → (top ≤ length up → Closed walk up top) → Closed walk (p ∷ up) top
    go true e more = record { over = p ∷ up; high = grind (arith, nat_tests); holds = o; same = refl }
    go false e more =
        let h : top ≤ length up = grind (arith, nat_tests) in
        let m = more h in
        let f = few (length up) h (omega arith) in
        record { over = m.over; high = m.high; holds = m.holds; same = onward_last p up (omega (arith, o.0.left, o.0.more)) ∙ m.same }

-- all are closed: the term ends
pub closed_all : (walk : List Walk) (up : List Parent) → Closed walk up 0 → Follows walk (onward up) None
closed_all walk up s = go s.over s.high s.same
  where
    go : (over : List Parent) → 0 ≡ length over → onward up ≡ onward over → Follows walk (onward up) None
    go [] e q = subst (λ u. Follows walk u None) (sym q) tt
    go (p ∷ over) e q = absurd (omega arith)

-- the record with a child less to come
abbrev pub fewer : Walk → Walk
fewer w = record { left = w.left - 1; above = w.above; last = w.last }

-- a cell with another child to come stays open
pub closed_next : (walk : List Walk) (up : List Parent) (top : ℕ) → top < length walk → 1 < (get_or walk top blank).left → Closed walk up (top + 1) → Follows (set walk top (fewer (get_or walk top blank))) (onward up) (Some (top + 1))
closed_next walk up top l h s = go s.over s.high s.holds s.same
  where
    go : (over : List Parent) → top + 1 ≡ length over → Holds walk over → onward up ≡ onward over → Follows (set walk top (fewer (get_or walk top blank))) (onward up) (Some (top + 1))
    go [] e o q = absurd (omega arith)
    go (p ∷ over) e o q =
        let at : length over ≡ top = omega arith in
        let t = subst (λ i. Stands (get_or walk i blank) p over) at o.0 in
        let k : Parent = record { cell = p.cell; child = p.child + 1 } in
        let turn : Stands (fewer (get_or walk top blank)) k over = record { left = omega (arith, t.left); more = omega arith; above = t.above; last = t.last } in
        let held = holds_push walk top (fewer (get_or walk top blank)) k over (omega arith) l turn o.1 in
        subst (λ u. Follows (set walk top (fewer (get_or walk top blank))) u (Some (top + 1))) (sym (q ∙ onward_more p over (omega (arith, t.left)))) (omega arith, held)

-- a cell with children is one more open cell
pub opened : (walk : List Walk) (height c : ℕ) (w : Walk) (up : List Parent) → height ≡ length up → height < length walk → 1 ≤ children c → Stands w (first c) up → Holds walk up → Follows (set walk height w) (next c up) (Some (height + 1))
opened walk height c w up e h k s o =
    subst (λ u. Follows (set walk height w) u (Some (height + 1))) (sym (next_in c up k)) (omega arith, holds_push walk height w (first c) up e h s o)
