-- A row renamed: its first cell, the children, the other trees. Assumes nothing.
use Rattle.std.proofs.Common.{◌≡◌, ℕ, suc, ◌+◌, ◌-◌, ◌≤◌, List, [], ◌∷◌, ◌++◌, length, take, drop, set, sym, refl, ap, ◌∙◌, subst, append_assoc, append-nil, length-append, arith}
use Rattle.terms.specs.Cells.{renumber}
use Rattle.terms.specs.Forest.{Are}
use Rattle.terms.specs.Rows.{Row, flat, size, rename}
use Rattle.terms.proofs.Bridge.{rename_size}
use Rattle.terms.proofs.Standings.{standing, stands_same}
use Rattle.terms.proofs.Trees.{flat_size}
use Rattle.moves.specs.declared.scope.Scope.{Scope}
use Rattle.moves.specs.Moved.{Written}
use Rattle.moves.specs.Scopes.{Fits, Inner, Rest}
use Rattle.moves.proofs.Overs.{Fronts, fronts_none, fronts_put, fronts_next, fronts_row, row_fronts}
use Rattle.moves.proofs.Scopes.{row, Cut, cut, rest_are, no_trees}

renamed_row : {s i q : Scope} {c next : ℕ} {t : Row} (f : ℕ → ℕ) (x : ℕ) (p : Inner s c i) (k : Cut s c i t) → Rest s next q → x ≡ renumber f i.d c → (x ∷ flat (rename f i.d i.b k.ks)) ++ flat (rename f q.d q.b k.r) ≡ flat (rename f s.d s.b t)
renamed_row {s} f x p k e ex =
    let is = ap (λ v. flat (rename f s.d s.b v)) k.is in
    let above = k.above in
    let last = p.last in
    let outer = e.above in
    let tail = e.last in
    cc (is, ex, above, last, outer, tail)

last_row : {s i : Scope} {c : ℕ} {t : Row} (f : ℕ → ℕ) (x : ℕ) (p : Inner s c i) (k : Cut s c i t) → s.trees.n ≡ 1 → x ≡ renumber f i.d c → x ∷ flat (rename f i.d i.b k.ks) ≡ flat (rename f s.d s.b t)
last_row {s} {i} f x p k e ex =
    let above = k.above in
    let last = p.last in
    let none = no_trees (omega (arith, e)) k.others in
    let end = append-nil (flat (rename f i.d i.b k.ks)) in
    cc (k.is, ex, above, last, none, end)

-- The cells of s before those of q are renamed at the front of the list, n cells. Those of q, whose binders may be
-- others, are all that follows.
pub record Begun (f : ℕ → ℕ) (s q : Scope) (out out' : List ℕ) (n : ℕ) : Type 0 where
  pub xs : List ℕ
  pub r : Row
  pub stands : Are q.trees r
  pub cells : q.trees.cells.now ≡ s.trees.cells.now
  pub start : q.trees.at ≡ s.trees.at + n
  pub wrote : Fronts xs out out' n
  pub joins : xs ++ flat (rename f q.d q.b r) ≡ flat (rename f s.d s.b (row s))

pub begin : (f : ℕ → ℕ) (s : Scope) (out : List ℕ) → Begun f s s out out 0
begin f s out =
    record { xs = []; r = row s; stands = (standing s.trees.standing).1; cells = refl; start = omega arith; wrote = fronts_none out; joins = refl }

module _ {f : ℕ → ℕ} {s q : Scope} {n : ℕ} {out out' : List ℕ} (v : Begun f s q out out' n) where
  begun_size : n + size v.r ≡ size (row s)
  begun_size =
      omega (arith, v.wrote.count, ap length v.joins, length-append v.xs (flat (rename f q.d q.b v.r)), flat_size (rename f q.d q.b v.r), flat_size (rename f s.d s.b (row s)), rename_size f q.d q.b v.r, rename_size f s.d s.b (row s))

  -- there are no others
  pub all_begun : q.trees.n ≡ 0 → (t : Row) → Are s.trees t → Written (rename f s.d s.b t) out out' n
  all_begun e t a =
      let same = stands_same (standing s.trees.standing).1 a in
      let none = no_trees e v.stands in
      row_fronts (sym (append-nil v.xs) ∙ sym (ap (λ u. v.xs ++ flat (rename f q.d q.b u)) none) ∙ v.joins ∙ ap (λ u. flat (rename f s.d s.b u)) same) v.wrote

  -- or a first one, for which there is room
  module _ {i : Scope} {c : ℕ} (p : Inner q c i) (room : Fits s.trees (length out)) where
    pub here : Cut q c i v.r
    here = cut p v.stands

    pub enough : n + suc (size here.ks + size here.r) ≤ length out
    enough = omega (arith, room (row s) (standing s.trees.standing).1, begun_size, here.sized)

    pub put : (x : ℕ) → Fronts (v.xs ++ (x ∷ [])) out (set out' n x) (n + 1)
    put x = fronts_put v.wrote x (omega (arith, enough))

    -- its cell is written, and behind it its children, if it has any
    module _ (x : ℕ) where
      abbrev pub Placed : List ℕ → ℕ → Type 0
      Placed out2 m = Fronts ((v.xs ++ (x ∷ [])) ++ flat (rename f i.d i.b here.ks)) out out2 m

      pub alone : i.trees.n ≡ 0 → Placed (set out' n x) (n + 1)
      alone e =
          let none = no_trees e here.inner in
          subst (λ ys. Fronts ys out (set out' n x) (n + 1)) (sym (append-nil (v.xs ++ (x ∷ []))) ∙ sym (ap (λ u. (v.xs ++ (x ∷ [])) ++ flat (rename f i.d i.b u)) none)) (put x)

      pub kids : {m : ℕ} {part : List ℕ} → ((ks : Row) → Are i.trees ks → Written (rename f i.d i.b ks) (take (length (set out' n x) - (n + 1)) (drop (n + 1) (set out' n x))) part m) → Placed (take (n + 1) (set out' n x) ++ (part ++ drop (length (set out' n x) - (n + 1)) (drop (n + 1) (set out' n x)))) (n + 1 + m)
      kids w = fronts_next (put x) (fronts_row (w here.ks here.inner))

      module _ {m : ℕ} {out2 : List ℕ} (w : Placed out2 m) where
        pub placed : m ≡ n + 1 + size here.ks
        placed = omega (arith, w.count, length-append (v.xs ++ (x ∷ [])) (flat (rename f i.d i.b here.ks)), (put x).count, flat_size (rename f i.d i.b here.ks), rename_size f i.d i.b here.ks)

        -- then come the other trees
        pub next_begun : {q' : Scope} → x ≡ renumber f i.d c → Rest q (s.trees.at + m) q' → Begun f s q' out out2 m
        next_begun {q'} ex e =
            let ys = flat (rename f i.d i.b here.ks) in
            let zs = flat (rename f q'.d q'.b here.r) in
            record {
              xs = (v.xs ++ (x ∷ [])) ++ ys;
              r = here.r;
              stands = rest_are here e (omega (arith, placed, v.start));
              cells = e.part.cells ∙ v.cells;
              start = e.part.start;
              wrote = w;
              joins = ap (λ z. z ++ zs) (append_assoc v.xs (x ∷ []) ys) ∙ append_assoc v.xs (x ∷ ys) zs ∙ ap (λ z. v.xs ++ z) (renamed_row f x p here e ex) ∙ v.joins;
            }

      -- or, where it is the last tree, its children
      pub last_begun : q.trees.n ≡ 1 → x ≡ renumber f i.d c → Begun f s i out (set out' n x) (n + 1)
      last_begun e ex =
          record {
            xs = v.xs ++ (x ∷ []);
            r = here.ks;
            stands = here.inner;
            cells = p.part.cells ∙ v.cells;
            start = omega (arith, here.starts, v.start);
            wrote = put x;
            joins = append_assoc v.xs (x ∷ []) (flat (rename f i.d i.b here.ks)) ∙ ap (λ z. v.xs ++ z) (last_row f x p here e ex) ∙ v.joins;
          }
