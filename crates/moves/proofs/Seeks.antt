-- Where a free variable occurs in a row: its first cell, the children, the other trees. Assumes nothing.
use Rattle.std.proofs.Common.{◌≡◌, ℕ, zero, suc, ◌+◌, ◌-◌, ◌<◌, ◌≤◌, Bool, true, false, cond, eqb, ◌⊎◌, [], ◌∷◌, length, get_or, Some, None, Ok, Err, Option, Result, sym, refl, ap, ◌∙◌, subst, inl, inr, ⊎_elim, arith, length-append}
use Rattle.std.specs.Option.{option_eq}
use Rattle.std.specs.Result.{result_err}
use lib.ListN.{get_or-eq_default}
use Rattle.std.proofs.lemmas.Bool.Decides.{nat_tests}
use Rattle.std.proofs.lemmas.List.{get_or_append_left, get_or-append_right}
use Rattle.terms.specs.Cells.{binder, payload, loose}
use Rattle.terms.specs.Forest.{Are}
use Rattle.terms.specs.Lists.{In}
use Rattle.terms.specs.Rows.{Row, size, above, own, frees}
use Rattle.terms.specs.Rows.Row.{none, node}
use Rattle.terms.proofs.Moves.{in_row, in_own, in_kids, in_next}
use Rattle.terms.proofs.Standings.{standing, stands_same}
use Rattle.moves.specs.declared.scope.Scope.{Scope}
use Rattle.moves.specs.Renamings.{free}
use Rattle.moves.specs.Occurrences.{numbers, Occurs, Searched, FirstFree}
use Rattle.moves.specs.Scopes.{Inner, Rest}
use Rattle.moves.proofs.Scopes.{row, Cut, cut, rest_are, no_trees}

-- what the test of a free number says
pub is_number : (o : Option ℕ) (x : ℕ) {q : Bool} → q ≡ option_eq eqb o (Some x) → q ≡ true → o ≡ Some x
is_number None x e h = absurd (grind (arith, nat_tests))
is_number (Some y) x e h = let k : eqb y x ≡ true = sym e ∙ h in ap Some (grind (arith, nat_tests))

pub no_number : (o : Option ℕ) (x : ℕ) {q : Bool} → q ≡ option_eq eqb o (Some x) → q ≡ false → o ≡ Some x → ⊥
no_number None x e h i = let z : ◌≡◌ {A = ℕ} 0 1 = cc in absurd (omega arith)
no_number (Some y) x e h i =
    let k : eqb y x ≡ false = sym e ∙ h in
    let j : y ≡ x = cc in
    absurd (grind (arith, nat_tests))

-- the number of a cell is its own
number_own : (x d c : ℕ) → free d c ≡ Some x → In x (own d c)
number_own x d c = go (loose d c)
  where
    go : (q : Bool) → cond q (Some (payload c - d)) None ≡ Some x → In x (cond q ((payload c - d) ∷ []) [])
    go true e = let k : x ≡ payload c - d = cc in inl k
    go false e = let z : ◌≡◌ {A = ℕ} 0 1 = cc in absurd (omega arith)

own_number : (x d c : ℕ) → In x (own d c) → free d c ≡ Some x
own_number x d c = go (loose d c)
  where
    go : (q : Bool) → In x (cond q ((payload c - d) ∷ []) []) → cond q (Some (payload c - d)) None ≡ Some x
    go true (inl e) = ap Some (sym e)
    go true (inr h) = absurd h
    go false h = absurd h

numbers_length : (d b : ℕ) (t : Row) → length (numbers d b t) ≡ size t
numbers_length d b none = refl
numbers_length d b (node c ks r) =
    let e = above d b r in
    omega (arith, length-append (numbers e (binder c) ks) (numbers d b r), numbers_length e (binder c) ks, numbers_length d b r)

-- the numbers of the children, and those of the other trees
module _ (d b c : ℕ) (ks r : Row) where
  number_kids : (j : ℕ) → j < size ks → get_or (numbers d b (node c ks r)) (suc j) None ≡ get_or (numbers (above d b r) (binder c) ks) j None
  number_kids j h =
      get_or_append_left (numbers (above d b r) (binder c) ks) (numbers d b r) None j (omega (arith, numbers_length (above d b r) (binder c) ks))

  number_next : (j : ℕ) → size ks ≤ j → get_or (numbers d b (node c ks r)) (suc j) None ≡ get_or (numbers d b r) (j - size ks) None
  number_next j h =
      get_or-append_right (numbers (above d b r) (binder c) ks) (numbers d b r) (size ks) j None (numbers_length (above d b r) (binder c) ks) h

past : (a b : ℕ) → (a < b) ⊎ (b ≤ a)
past zero zero = inr (omega arith)
past zero (suc b) = inl (omega arith)
past (suc a) zero = inr (omega arith)
past (suc a) (suc b) = ⊎_elim (λ h. inl (omega arith)) (λ h. inr (omega arith)) (past a b)

-- a cell with the number x has it free in the row
number_free : (x d b : ℕ) (t : Row) (j : ℕ) → get_or (numbers d b t) j None ≡ Some x → In x (frees d b t)
number_free x d b none j h = let z : ◌≡◌ {A = ℕ} 0 1 = cc in absurd (omega arith)
number_free x d b (node c ks r) zero h = in_own x d b c ks r (number_own x (above d b r) c h)
number_free x d b (node c ks r) (suc j) h =
    ⊎_elim
    (λ l. in_kids x d b c ks r (number_free x (above d b r) (binder c) ks j (sym (number_kids d b c ks r j l) ∙ h)))
    (λ l. in_next x d b c ks r (number_free x d b r (j - size ks) (sym (number_next d b c ks r j l) ∙ h)))
    (past j (size ks))

module _ (x d b c : ℕ) (ks r : Row) where
  found_here : free (above d b r) c ≡ Some x → Occurs x d b (node c ks r) 0
  found_here h = record { free = in_own x d b c ks r (number_own x (above d b r) c h); here = h; before = λ j l. absurd (omega arith) }

  module _ (other : free (above d b r) c ≡ Some x → ⊥) where
    found_kids : (k : ℕ) → Occurs x (above d b r) (binder c) ks k → Occurs x d b (node c ks r) (suc k)
    found_kids k o =
        let within : k < size ks = ⊎_elim (λ l. l) (λ l. absurd (short l)) (past k (size ks)) in
        record {
          free = in_kids x d b c ks r o.free;
          here = number_kids d b c ks r k within ∙ o.here;
          before = before within;
        }
      where
        short : size ks ≤ k → ⊥
        short l =
            let n = numbers_length (above d b r) (binder c) ks in
            let z : get_or (numbers (above d b r) (binder c) ks) k None ≡ None = get_or-eq_default (numbers (above d b r) (binder c) ks) None {n = k} (omega (arith, n)) in
            let y = o.here in
            let w : ◌≡◌ {A = ℕ} 0 1 = cc in
            omega arith

        before : k < size ks → (j : ℕ) → j < suc k → get_or (numbers d b (node c ks r)) j None ≡ Some x → ⊥
        before within zero l h = other h
        before within (suc j) l h = o.before j (omega arith) (sym (number_kids d b c ks r j (omega arith)) ∙ h)

    module _ (none_below : In x (frees (above d b r) (binder c) ks) → ⊥) where
      found_next : (k : ℕ) → Occurs x d b r k → Occurs x d b (node c ks r) (suc (size ks + k))
      found_next k o =
          record {
            free = in_next x d b c ks r o.free;
            here = number_next d b c ks r (size ks + k) (omega arith) ∙ ap (λ j. get_or (numbers d b r) j None) (add_less (size ks) k) ∙ o.here;
            before = before;
          }
        where
          add_less : (m k : ℕ) → m + k - m ≡ k
          add_less m k = omega arith

          before : (j : ℕ) → j < suc (size ks + k) → get_or (numbers d b (node c ks r)) j None ≡ Some x → ⊥
          before zero l h = other h
          before (suc j) l h =
              ⊎_elim
              (λ m. none_below (number_free x (above d b r) (binder c) ks j (sym (number_kids d b c ks r j m) ∙ h)))
              (λ m. o.before (j - size ks) (omega arith) (sym (number_next d b c ks r j m) ∙ h))
              (past j (size ks))

      not_found : (In x (frees d b r) → ⊥) → In x (frees d b (node c ks r)) → ⊥
      not_found h i =
          ⊎_elim (λ o. other (own_number x (above d b r) c o)) (λ q. ⊎_elim none_below h q) (in_row x d b c ks r i)

-- the trees of a scope, taken apart
module _ {s i : Scope} {c : ℕ} {t : Row} (p : Inner s c i) (k : Cut s c i t) (x : ℕ) where
  other_cell : (free i.d c ≡ Some x → ⊥) → free (above s.d s.b k.r) c ≡ Some x → ⊥
  other_cell h e = h (ap (λ m. free m c) k.above ∙ e)

  pub searched_here : free i.d c ≡ Some x → Searched x s.d s.b t s.trees.at (Err s.trees.at)
  searched_here h =
      (0, omega arith, subst (λ u. Occurs x s.d s.b u 0) (sym k.is) (found_here x s.d s.b c k.ks k.r (ap (λ m. free m c) (sym k.above) ∙ h)))

  module _ (h : free i.d c ≡ Some x → ⊥) where
    pub searched_kids : (j : ℕ) → Searched x i.d i.b k.ks i.trees.at (Err j) → Searched x s.d s.b t s.trees.at (Err j)
    searched_kids j (m, is, w) =
        let w' = subst (λ e. Occurs x e (binder c) k.ks m) k.above (subst (λ e. Occurs x i.d e k.ks m) p.last w) in
        (suc m, omega (arith, is, k.starts), subst (λ u. Occurs x s.d s.b u (suc m)) (sym k.is) (found_kids x s.d s.b c k.ks k.r (other_cell h) m w'))

    pub searched_next : {q : Scope} {next : ℕ} (r : Result ℕ ℕ) → Rest s next q → Searched x i.d i.b k.ks i.trees.at (Ok next) → Searched x q.d q.b k.r q.trees.at r → Searched x s.d s.b t s.trees.at r
    searched_next {q} {next} r e f g = go r (rw (← e.above, ← e.last, ← e.part.start) g)
      where
        below : In x (frees (above s.d s.b k.r) (binder c) k.ks) → ⊥
        below m = f.1 (subst (λ e. In x (frees e i.b k.ks)) (sym k.above) (subst (λ e. In x (frees (above s.d s.b k.r) e k.ks)) (sym p.last) m))

        go : (r : Result ℕ ℕ) → Searched x s.d s.b k.r next r → Searched x s.d s.b t s.trees.at r
        go (Err j) (m, is, w) =
            (suc (size k.ks + m), omega (arith, f.0, is, k.starts), subst (λ u. Occurs x s.d s.b u (suc (size k.ks + m))) (sym k.is) (found_next x s.d s.b c k.ks k.r (other_cell h) below m w))
        go (Ok e) w =
            (omega (arith, f.0, w.0, k.sized, k.starts), subst (λ u. In x (frees s.d s.b u) → ⊥) (sym k.is) (not_found x s.d s.b c k.ks k.r (other_cell h) below w.1))

-- The trees of S before those of q, of the row r, do not have x: what is found in the row is what is found in all.
pub record Sought (x : ℕ) (S q : Scope) : Type 0 where
  pub r : Row
  pub stands : Are q.trees r
  pub cells : q.trees.cells.now ≡ S.trees.cells.now
  pub start : S.trees.at ≤ q.trees.at
  pub onward : (res : Result ℕ ℕ) → Searched x q.d q.b r q.trees.at res → Searched x S.d S.b (row S) S.trees.at res

pub seek : (x : ℕ) (S : Scope) → Sought x S S
seek x S = record { r = row S; stands = (standing S.trees.standing).1; cells = refl; start = omega arith; onward = λ res w. w }

module _ {x : ℕ} {S q : Scope} (v : Sought x S q) where
  found_in : (res : Result ℕ ℕ) → Searched x q.d q.b v.r q.trees.at res → (t : Row) → Are S.trees t → Searched x S.d S.b t S.trees.at res
  found_in res w t a =
      subst (λ u. Searched x S.d S.b u S.trees.at res) (stands_same (standing S.trees.standing).1 a) (v.onward res w)

  -- there are no others
  pub all_sought : q.trees.n ≡ 0 → (t : Row) → Are S.trees t → Searched x S.d S.b t S.trees.at (Ok q.trees.at)
  all_sought e =
      let none = no_trees e v.stands in
      found_in (Ok q.trees.at) (omega (arith, ap size none), λ i. subst (λ u. In x (frees q.d q.b u)) none i)

  -- or a first one
  module _ {i : Scope} {c : ℕ} (p : Inner q c i) where
    pub next_tree : Cut q c i v.r
    next_tree = cut p v.stands

    pub sought_here : free i.d c ≡ Some x → (t : Row) → Are S.trees t → Searched x S.d S.b t S.trees.at (Err q.trees.at)
    sought_here h = found_in (Err q.trees.at) (searched_here p next_tree x h)

    module _ (h : free i.d c ≡ Some x → ⊥) where
      pub sought_kids : (j : ℕ) → ((ks : Row) → Are i.trees ks → Searched x i.d i.b ks i.trees.at (Err j)) → (t : Row) → Are S.trees t → Searched x S.d S.b t S.trees.at (Err j)
      sought_kids j f = found_in (Err j) (searched_kids p next_tree x h j (f next_tree.ks next_tree.inner))

      pub next_sought : {next : ℕ} {q' : Scope} → ((ks : Row) → Are i.trees ks → Searched x i.d i.b ks i.trees.at (Ok next)) → Rest q next q' → Sought x S q'
      next_sought {next} {q'} f e =
          let k = next_tree in
          let g = f k.ks k.inner in
          record {
            r = k.r;
            stands = rest_are k e (omega (arith, g.0, k.starts));
            cells = e.part.cells ∙ v.cells;
            start = omega (arith, e.part.start, g.0, k.starts, v.start);
            onward = λ res w. v.onward res (searched_next p k x h res e g w);
          }

-- the first cell alone
pub first_found : (x d b at : ℕ) (t : Row) (r : Result ℕ ℕ) {o : Option ℕ} → o ≡ result_err r → Searched x d b t at r → FirstFree x d b t at o
first_found x d b at t (Ok e) h w = subst (FirstFree x d b t at) (sym h) w.1
first_found x d b at t (Err i) h w = subst (FirstFree x d b t at) (sym h) w
