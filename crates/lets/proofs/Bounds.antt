-- The free numbers of a row below a bound, tree by tree. Assumes nothing.
use Rattle.std.proofs.Common.{◌≡◌, ℕ, ◌+◌, ◌-◌, ◌<◌, ◌≤◌, ◌⊎◌, length, Some, None, sym, refl, ap, ◌∙◌, subst, ⊎_elim, arith}
use Rattle.terms.specs.Cells.{kind, binder, children, payload}
use Rattle.terms.specs.Rows.{Row, size, above}
use Rattle.terms.specs.Rows.Row.{none, node}
use Rattle.terms.specs.Standing.{Stands}
use Rattle.terms.specs.declared.forest.Trees.{Trees}
use Rattle.terms.specs.Forest.{Are, Part, Headed, Ended}
use Rattle.terms.proofs.Inject.{empty}
use Rattle.terms.proofs.Moves.{in_row, in_own, in_kids, in_next, own_is, is_own}
use Rattle.terms.proofs.Steps.{Opened, opened, moved, above_last, above_more}
use Rattle.lets.specs.Checks.{FreeBelow, Bounded}

-- a cell's own number, those of its children, and those of the trees to its right
module _ (m d b c : ℕ) (ks r : Row) where
  pub below_in : (kind c ≡ 0 → payload c < above d b r + m) → FreeBelow m (above d b r) (binder c) ks → FreeBelow m d b r → FreeBelow m d b (node c ks r)
  below_in o f g x h =
      ⊎_elim
      (λ i. let q = own_is x (above d b r) c i in let l = o q.0 in omega (arith, q.1, l))
      (λ q. ⊎_elim (f x) (g x) q)
      (in_row x d b c ks r h)

  pub below_own : FreeBelow m d b (node c ks r) → kind c ≡ 0 → above d b r + m ≤ payload c → ⊥
  below_own f k l =
      let x = payload c - above d b r in
      let q : x < m = f x (in_own x d b c ks r (is_own x (above d b r) c k (omega arith))) in
      omega (arith, q)

  pub below_kids : FreeBelow m d b (node c ks r) → FreeBelow m (above d b r) (binder c) ks
  below_kids f x h = f x (in_kids x d b c ks r h)

  pub below_next : FreeBelow m d b (node c ks r) → FreeBelow m d b r
  below_next f x h = f x (in_next x d b c ks r h)

-- Some of the trees t are left: the bound holds of t exactly where it holds of these.
pub record Passed (m d b : ℕ) (trees left : Trees) (t : Row) : Type 0 where
  pub others : Row
  pub are : Are left others
  pub same : left.cells.now ≡ trees.cells.now
  pub on : trees.at ≤ left.at
  pub ended : trees.at + size t ≡ left.at + size others
  pub to : FreeBelow m d b t → FreeBelow m d b others
  pub from : FreeBelow m d b others → FreeBelow m d b t

pub none_passed : (m d b : ℕ) (trees : Trees) (t : Row) → Are trees t → Passed m d b trees trees t
none_passed m d b trees t s = record { others = t; are = s; same = refl; on = omega arith; ended = refl; to = λ f. f; from = λ f. f }

-- a part of some trees, and what stands there
are_part : {trees part : Trees} {at n : ℕ} {t : Row} → Part trees at n part → Stands t n trees.cells.now at → Are part t
are_part q s = rw (q.cells, q.start, q.count) s

-- the first of those that are left
module _ (m d b : ℕ) (trees left : Trees) (t : Row) (p : Passed m d b trees left t) (c : ℕ) (below : Trees) (h : Headed left (Some (c, below))) where
  pub next_tree : Opened p.others left.n left.at left.cells.now
  next_tree = opened p.others p.are (λ z. omega (arith, z, h.0))

  is_first : p.others ≡ node c next_tree.ks next_tree.r
  is_first = next_tree.is ∙ ap (λ x. node x next_tree.ks next_tree.r) (sym h.1)

  pub left_within : (trees.at ≤ left.at) × (left.at < length trees.cells.now)
  left_within = (p.on, omega (arith, next_tree.within, next_tree.sized, ap length p.same))

  kids_are : Are below next_tree.ks
  kids_are = are_part h.2 (moved next_tree.first (ap children h.1) refl)

  -- where the children end, as the bound of them says
  pub kids_end : (g e next : ℕ) → Bounded m e g below.n below.cells.now below.at (Some next) → Ended left next
  kids_end g e next z ks s = let k = z ks (are_part h.2 (moved s (ap children h.1) refl)) in let q = h.2.start in omega (arith, k.0)

  module _ (e : ℕ) (e-is : ((left.n ≡ 1) × (e ≡ d + b)) ⊎ ((left.n ≡ 1 → ⊥) × (e ≡ d))) where
    over : e ≡ above d b next_tree.r
    over = ⊎_elim
        (λ w. w.1 ∙ sym (above_last d b next_tree.r (omega (arith, next_tree.others.wide, w.0))))
        (λ w. let k = w.0 in let l = h.0 in w.1 ∙ sym (above_more d b next_tree.r (omega (arith, next_tree.others.wide))))
        e-is

    bound_first : FreeBelow m d b t → FreeBelow m d b (node c next_tree.ks next_tree.r)
    bound_first f = subst (FreeBelow m d b) is_first (p.to f)

    -- its first cell has a free number that is too large,
    pub own_large : (kind c ≡ 0) × (e + m ≤ payload c) → FreeBelow m d b t → ⊥
    own_large l f = let z = l.1 in below_own m d b c next_tree.ks next_tree.r (bound_first f) l.0 (omega (arith, over))

    module _ (g : ℕ) (g-is : g ≡ binder c) where
      kids_bound : FreeBelow m e g next_tree.ks → FreeBelow m (above d b next_tree.r) (binder c) next_tree.ks
      kids_bound f = subst (λ x. FreeBelow m x (binder c) next_tree.ks) over (subst (λ x. FreeBelow m e x next_tree.ks) g-is f)

      -- or its children have one,
      pub kids_large : Bounded m e g below.n below.cells.now below.at None → FreeBelow m d b t → ⊥
      kids_large z f =
          z next_tree.ks kids_are (subst (λ x. FreeBelow m e x next_tree.ks) (sym g-is) (subst (λ x. FreeBelow m x (binder c) next_tree.ks) (sym over) (below_kids m d b c next_tree.ks next_tree.r (bound_first f))))

      -- or it is passed
      pub passed_more : (next : ℕ) (rest : Trees) → ((kind c ≡ 0) × (e + m ≤ payload c) → ⊥) → Bounded m e g below.n below.cells.now below.at (Some next) → Part left next (left.n - 1) rest → Passed m d b trees rest t
      passed_more next rest o z q =
          let f = z next_tree.ks kids_are in
          let far : next ≡ left.at + 1 + size next_tree.ks = kids_end g e next z next_tree.ks next_tree.first in
          let at : rest.at ≡ next = q.start in
          let own : kind c ≡ 0 → payload c < above d b next_tree.r + m =
          λ w. let l : (e + m ≤ payload c → ⊥) = λ v. o (w, v) in omega (arith, over, l) in
          record {
            others = next_tree.r;
            are = are_part q (moved next_tree.others refl far);
            same = q.cells ∙ p.same;
            on = omega (arith, p.on);
            ended = omega (arith, p.ended, next_tree.sized);
            to = λ v. below_next m d b c next_tree.ks next_tree.r (bound_first v);
            from = λ v. p.from (subst (FreeBelow m d b) (sym is_first) (below_in m d b c next_tree.ks next_tree.r own (kids_bound f.1) v));
          }

-- all are passed
pub passed_all : (m d b : ℕ) (trees left : Trees) (t : Row) → Passed m d b trees left t → left.n ≡ 0 → (left.at ≡ trees.at + size t) × FreeBelow m d b t
passed_all m d b trees left t p h =
    let z : p.others ≡ none = empty p.others (omega (arith, p.are.wide)) in
    (omega (arith, p.ended, ap size z), p.from (subst (FreeBelow m d b) (sym z) (λ x k. absurd k)))
