-- A row with trees put for its free variables: its first tree, then the others. Assumes nothing.
use Rattle.std.proofs.Common.{◌≡◌, ℕ, zero, suc, ◌+◌, ◌-◌, ◌<◌, ◌≤◌, Bool, true, false, cond, List, [], ◌∷◌, ◌++◌, length, take, drop, set, Some, None, Option, sym, refl, ap, ◌∙◌, subst, append_assoc, append-nil, length-append, add-zero, arith}
use Rattle.terms.specs.Cells.{binder, payload, loose}
use Rattle.terms.specs.Forest.{Are}
use Rattle.terms.specs.Rows.{Row, flat, size, above, raise, substitute, ◌&◌}
use Rattle.terms.specs.Rows.Row.{none, node}
use Rattle.terms.proofs.Trees.{flat_size, flat-&, &-none}
use Rattle.terms.proofs.Standings.{standing, stands_same}
use Rattle.terms.proofs.Bridge.{size-&, rename_size}
use Rattle.moves.specs.declared.images.Substitution.{Substitution}
use Rattle.moves.specs.declared.images.Image.{Image}
use Rattle.moves.specs.declared.scope.Scope.{Scope}
use Rattle.moves.specs.Images.{image_of, extent, Shown, Shows, Sizes}
use Rattle.moves.specs.Moved.{Written}
use Rattle.moves.specs.Renamings.{free}
use Rattle.moves.specs.Scopes.{Inner, Rest}
use Rattle.moves.specs.Substitutions.{Spent, Putting, PuttingFirst, Substituted}
use Rattle.moves.proofs.Overs.{Fronts, fronts_none, fronts_cell, fronts_next, fronts_row, row_fronts, fronts_length, part_length}
use Rattle.moves.proofs.Scopes.{row, Cut, cut, rest_are, no_trees}

module _ (s : ℕ → Row) where
  -- what becomes of a first tree under e binders
  abbrev tree : ℕ → ℕ → Row → Bool → Row
  tree e c ks q = cond q (raise e (s (payload c - e))) (node c (substitute s e (binder c) ks) none)

  tree_alone : (e c : ℕ) (ks : Row) → substitute s e 0 (node c ks none) ≡ tree e c ks (loose e c)
  tree_alone e c ks = &-none _ ∙ ap (λ f. tree f c ks (loose f c)) (add-zero e)

  pub sub_first : (d b c : ℕ) (ks r : Row) → substitute s d b (node c ks r) ≡ substitute s (above d b r) 0 (node c ks none) & substitute s d b r
  sub_first d b c ks r = ap (λ t. t & substitute s d b r) (sym (tree_alone (above d b r) c ks))

  pub sub_hit : (d c n : ℕ) (ks : Row) → Some n ≡ free d c → substitute s d 0 (node c ks none) ≡ raise d (s n)
  sub_hit d c n ks h = tree_alone d c ks ∙ go (loose d c) h
    where
      go : (q : Bool) → Some n ≡ cond q (Some (payload c - d)) None → tree d c ks q ≡ raise d (s n)
      go true e = let k : payload c - d ≡ n = cc in ap (λ m. raise d (s m)) k
      go false e = let z : ◌≡◌ {A = ℕ} 0 1 = cc in absurd (omega arith)

  pub sub_miss : (d c : ℕ) (ks : Row) → None ≡ free d c → substitute s d 0 (node c ks none) ≡ node c (substitute s d (binder c) ks) none
  sub_miss d c ks h = tree_alone d c ks ∙ go (loose d c) h
    where
      go : (q : Bool) → None ≡ cond q (Some (payload c - d)) None → tree d c ks q ≡ node c (substitute s d (binder c) ks) none
      go true e = let z : ◌≡◌ {A = ℕ} 0 1 = cc in absurd (omega arith)
      go false e = refl

-- a row is its first tree and the others
module _ {S i : Scope} {c : ℕ} {t : Row} (k : Cut S c i t) (s : ℕ → Row) where
  sub_is : substitute s S.d S.b t ≡ substitute s i.d 0 (node c k.ks none) & substitute s S.d S.b k.r
  sub_is =
      ap (substitute s S.d S.b) k.is ∙ sub_first s S.d S.b c k.ks k.r ∙ ap (λ e. substitute s e 0 (node c k.ks none) & substitute s S.d S.b k.r) (sym k.above)

  pub sub_size : size (substitute s S.d S.b t) ≡ size (substitute s i.d 0 (node c k.ks none)) + size (substitute s S.d S.b k.r)
  sub_size = ap size sub_is ∙ size-& (substitute s i.d 0 (node c k.ks none)) (substitute s S.d S.b k.r)

  -- the others keep their binders
  rest_is : {q : Scope} {next : ℕ} → Rest S next q → substitute s q.d q.b k.r ≡ substitute s S.d S.b k.r
  rest_is {q} e = ap (λ d. substitute s d q.b k.r) e.above ∙ ap (λ b. substitute s S.d b k.r) e.last

  pub rest_size : {q : Scope} {next : ℕ} → Rest S next q → size (substitute s q.d q.b k.r) ≡ size (substitute s S.d S.b k.r)
  rest_size e = ap size (rest_is e)

  -- the room that the first tree leaves is for the others
  pub spent_row : {q : Scope} {next room : ℕ} (left : ℕ) (r : Option (ℕ × ℕ)) → Rest S next q → Spent (i.trees.at + size k.ks) (size (substitute s i.d 0 (node c k.ks none))) room (Some (next, left)) → Spent (q.trees.at + size k.r) (size (substitute s q.d q.b k.r)) left r → Spent (S.trees.at + size t) (size (substitute s S.d S.b t)) room r
  spent_row left (Some v) e f g =
      let x = f.0 in
      let y = f.1 in
      let z = e.part.start in
      (omega (arith, g.0, k.sized, k.starts), omega (arith, g.1, sub_size, rest_size e))
  spent_row left None e f g = let y = f.1 in omega (arith, g, sub_size, rest_size e)

  pub spent_none : {room : ℕ} → Spent (i.trees.at + size k.ks) (size (substitute s i.d 0 (node c k.ks none))) room None → Spent (S.trees.at + size t) (size (substitute s S.d S.b t)) room None
  spent_none f = omega (arith, f, sub_size)

  -- the cells of the first, then those of the others
  pub joined : {q : Scope} {next : ℕ} → Rest S next q → flat (substitute s i.d 0 (node c k.ks none)) ++ flat (substitute s q.d q.b k.r) ≡ flat (substitute s S.d S.b t)
  joined e =
      ap (λ u. flat (substitute s i.d 0 (node c k.ks none)) ++ flat u) (rest_is e) ∙ sym (flat-& (substitute s i.d 0 (node c k.ks none)) (substitute s S.d S.b k.r)) ∙ ap flat (sym sub_is)

-- one tree, whose cell is a free variable
module _ (s : ℕ → Row) (d c n : ℕ) (ks : Row) (h : Some n ≡ free d c) where
  pub hit_size : size (substitute s d 0 (node c ks none)) ≡ size (s n)
  hit_size = ap size (sub_hit s d c n ks h) ∙ rename_size (λ x. x + d) 0 0 (s n)

  pub tree_hit : {end p m : ℕ} {old new : List ℕ} → p ≡ end → Written (raise d (s n)) old new m → Substituted end (substitute s d 0 (node c ks none)) old new (p, m)
  tree_hit e w = record { ends = e; wrote = row_fronts (ap flat (sym (sub_hit s d c n ks h))) (fronts_row w) }

-- or none
module _ (s : ℕ → Row) (d b c : ℕ) (ks : Row) (h : None ≡ free d c) (eb : b ≡ binder c) where
  miss_is : substitute s d 0 (node c ks none) ≡ node c (substitute s d b ks) none
  miss_is = sub_miss s d c ks h ∙ ap (λ k. node c (substitute s d k ks) none) (sym eb)

  pub miss_size : size (substitute s d 0 (node c ks none)) ≡ suc (size (substitute s d b ks))
  miss_size = omega (arith, ap size miss_is)

  pub spent_miss : {room : ℕ} (end left : ℕ) (r : Option (ℕ × ℕ)) → 1 + left ≡ room → Spent end (size (substitute s d b ks)) left r → Spent end (size (substitute s d 0 (node c ks none))) room r
  spent_miss end left (Some v) l f = (f.0, omega (arith, f.1, miss_size))
  spent_miss end left None l f = omega (arith, f, miss_size)

  pub tree_miss : {end p m : ℕ} {old part : List ℕ} → 0 < length old → Substituted end (substitute s d b ks) (take (length (set old 0 c) - 1) (drop 1 (set old 0 c))) part (p, m) → Substituted end (substitute s d 0 (node c ks none)) old (take 1 (set old 0 c) ++ (part ++ drop (length (set old 0 c) - 1) (drop 1 (set old 0 c)))) (p, 1 + m)
  tree_miss {old = old} l f =
      let e = ap (λ u. c ∷ u) (sym (append-nil (flat (substitute s d b ks)))) ∙ ap flat (sym miss_is) in
      record { ends = f.ends; wrote = row_fronts e (fronts_next (fronts_cell old c l) (fronts_row f.wrote)) }

-- The trees of S before those of q, of the row r, are written at the front of the list, n cells, with trees put for
-- their free variables: the trees that s gives.
pub record Filling (s : ℕ → Row) (S q : Scope) (r : Row) (out out' : List ℕ) (n : ℕ) : Type 0 where
  pub xs : List ℕ
  pub wrote : Fronts xs out out' n
  pub joins : xs ++ flat (substitute s q.d q.b r) ≡ flat (substitute s S.d S.b (row S))

-- whatever trees are shown
pub record Filled (how : Substitution) (S q : Scope) (out out' : List ℕ) (n : ℕ) : Type 0 where
  pub r : Row
  pub stands : Are q.trees r
  pub cells : q.trees.cells.now ≡ S.trees.cells.now
  pub start : S.trees.at ≤ q.trees.at
  pub ends : q.trees.at + size r ≡ S.trees.at + size (row S)
  pub each : (s : ℕ → Row) → Shows how s → Filling s S q r out out' n

pub fill : (how : Substitution) (S : Scope) (out : List ℕ) → Filled how S S out out 0
fill how S out =
    record { r = row S; stands = (standing S.trees.standing).1; cells = refl; start = omega arith; ends = refl; each = λ s z. record { xs = []; wrote = fronts_none out; joins = refl } }

module _ {how : Substitution} {S q : Scope} {n : ℕ} {out out' : List ℕ} (v : Filled how S q out out' n) where
  -- there are no others
  pub all_filled : q.trees.n ≡ 0 → (t : Row) (s : ℕ → Row) → Are S.trees t → Shows how s → Substituted (S.trees.at + size t) (substitute s S.d S.b t) out out' (q.trees.at, n)
  all_filled e t s a z =
      let same = stands_same (standing S.trees.standing).1 a in
      let none = no_trees e v.stands in
      let w = v.each s z in
      record {
        ends = omega (arith, v.ends, ap size same, ap size none);
        wrote = row_fronts (sym (append-nil w.xs) ∙ sym (ap (λ u. w.xs ++ flat (substitute s q.d q.b u)) none) ∙ w.joins ∙ ap (λ u. flat (substitute s S.d S.b u)) same) w.wrote;
      }

  -- or a first one, for which there is room
  module _ {i : Scope} {c : ℕ} (p : Inner q c i) (g : Putting S how (length out)) where
    pub first : Cut q c i v.r
    first = cut p v.stands

    pub filling : Filling g.s S q v.r out out' n
    filling = v.each g.s g.shows

    pub room : n + (size (substitute g.s i.d 0 (node c first.ks none)) + size (substitute g.s q.d q.b first.r)) ≤ length out
    room =
        let same = ap (λ u. size (substitute g.s S.d S.b u)) (stands_same (standing S.trees.standing).1 g.stands) in
        omega (arith, same, g.small, filling.wrote.count, ap length filling.joins, length-append filling.xs (flat (substitute g.s q.d q.b v.r)), flat_size (substitute g.s q.d q.b v.r), flat_size (substitute g.s S.d S.b (row S)), sub_size first g.s)

    pub long : length out' ≡ length out
    long = fronts_length filling.wrote

    pub putting : PuttingFirst c i how (length (take (length out' - n) (drop n out')))
    putting = record { kids = first.ks; stands = first.inner; s = g.s; shows = g.shows; small = omega (arith, room, long, part_length out' n) }

    -- it is written
    module _ {next m : ℕ} {part : List ℕ} (f : (ks : Row) (s : ℕ → Row) → Are i.trees ks → Shows how s → Substituted (i.trees.at + size ks) (substitute s i.d 0 (node c ks none)) (take (length out' - n) (drop n out')) part (next, m)) where
      pub wrote_first : Substituted (i.trees.at + size first.ks) (substitute g.s i.d 0 (node c first.ks none)) (take (length out' - n) (drop n out')) part (next, m)
      wrote_first = f first.ks g.s first.inner g.shows

      pub next_filled : {q' : Scope} → Rest q next q' → Filled how S q' out (take n out' ++ (part ++ drop (length out' - n) (drop n out'))) (n + m)
      next_filled {q'} e =
          record {
            r = first.r;
            stands = rest_are first e (omega (arith, wrote_first.ends, first.starts));
            cells = e.part.cells ∙ v.cells;
            start = omega (arith, e.part.start, wrote_first.ends, first.starts, v.start);
            ends = omega (arith, e.part.start, wrote_first.ends, first.starts, first.sized, v.ends);
            each = λ s z.
                let w = v.each s z in
                let ys = flat (substitute s i.d 0 (node c first.ks none)) in
                record {
                  xs = w.xs ++ ys;
                  wrote = fronts_next w.wrote (fronts_row (f first.ks s first.inner z).wrote);
                  joins = append_assoc w.xs ys (flat (substitute s q'.d q'.b first.r)) ∙ ap (λ y. w.xs ++ y) (joined first s e) ∙ w.joins;
                };
          }

-- trees of any sizes
blank : ℕ → Row
blank zero = none
blank (suc k) = node 0 none (blank k)

blank_size : (k : ℕ) → size (blank k) ≡ k
unfolding blank
blank_size zero = refl
blank_size (suc k) = omega (arith, blank_size k)

pub blanks : Substitution → ℕ → Row
blanks how n = blank (extent (image_of how n))

pub blanks_sizes : (how : Substitution) → Sizes how (blanks how)
unfolding blanks
blanks_sizes how n = sym (blank_size (extent (image_of how n)))

-- The trees of S before those of q, of the row r, leave so much of the room, with trees put for their free variables:
-- what the row takes of that, all take of the room.
pub record Spending (how : Substitution) (S q : Scope) (room left : ℕ) : Type 0 where
  pub r : Row
  pub stands : Are q.trees r
  pub cells : q.trees.cells.now ≡ S.trees.cells.now
  pub start : S.trees.at ≤ q.trees.at
  pub onward : (s : ℕ → Row) → Sizes how s → (res : Option (ℕ × ℕ)) → Spent (q.trees.at + size r) (size (substitute s q.d q.b r)) left res → Spent (S.trees.at + size (row S)) (size (substitute s S.d S.b (row S))) room res

pub spend : (how : Substitution) (S : Scope) (room : ℕ) → Spending how S S room room
spend how S room =
    record { r = row S; stands = (standing S.trees.standing).1; cells = refl; start = omega arith; onward = λ s z res w. w }

module _ {how : Substitution} {S q : Scope} {room left : ℕ} (v : Spending how S q room left) where
  spent_in : (s : ℕ → Row) → Sizes how s → (res : Option (ℕ × ℕ)) → Spent (q.trees.at + size v.r) (size (substitute s q.d q.b v.r)) left res → (t : Row) → Are S.trees t → Spent (S.trees.at + size t) (size (substitute s S.d S.b t)) room res
  spent_in s z res w t a =
      subst (λ u. Spent (S.trees.at + size u) (size (substitute s S.d S.b u)) room res) (stands_same (standing S.trees.standing).1 a) (v.onward s z res w)

  -- there are no others
  pub all_spent : q.trees.n ≡ 0 → (t : Row) (s : ℕ → Row) → Are S.trees t → Sizes how s → Spent (S.trees.at + size t) (size (substitute s S.d S.b t)) room (Some (q.trees.at, left))
  all_spent e t s a z =
      let none = no_trees e v.stands in
      spent_in s z (Some (q.trees.at, left)) (omega (arith, ap size none), omega (arith, ap (λ u. size (substitute s q.d q.b u)) none)) t a

  -- or a first one
  module _ {i : Scope} {c : ℕ} (p : Inner q c i) where
    pub next_tree : Cut q c i v.r
    next_tree = cut p v.stands

    -- for which too little is left
    pub first_unspent : ((ks : Row) (s : ℕ → Row) → Are i.trees ks → Sizes how s → Spent (i.trees.at + size ks) (size (substitute s i.d 0 (node c ks none))) left None) → (t : Row) (s : ℕ → Row) → Are S.trees t → Sizes how s → Spent (S.trees.at + size t) (size (substitute s S.d S.b t)) room None
    first_unspent f t s a z = spent_in s z None (spent_none next_tree s (f next_tree.ks s next_tree.inner z)) t a

    -- or enough
    module _ {next : ℕ} (more : ℕ) (f : (ks : Row) (s : ℕ → Row) → Are i.trees ks → Sizes how s → Spent (i.trees.at + size ks) (size (substitute s i.d 0 (node c ks none))) left (Some (next, more))) where
      pub first_ends : (ks : Row) → Are i.trees ks → next ≡ i.trees.at + size ks
      first_ends ks a = (f ks (blanks how) a (blanks_sizes how)).0

      pub next_spending : {q' : Scope} → Rest q next q' → Spending how S q' room more
      next_spending {q'} e =
          let k = next_tree in
          let ends = first_ends k.ks k.inner in
          record {
            r = k.r;
            stands = rest_are k e (omega (arith, ends, k.starts));
            cells = e.part.cells ∙ v.cells;
            start = omega (arith, e.part.start, ends, k.starts, v.start);
            onward = λ s z res w. v.onward s z res (spent_row k s more res e (f k.ks s k.inner z) w);
          }

-- the tree that stands for a number, by what was found for it
pub shown_by : (how : Substitution) (s : ℕ → Row) (n : ℕ) (i : Image) → i ≡ image_of how n → Shows how s → Shown i (s n)
shown_by how s n i e h = subst (λ j. Shown j (s n)) (sym e) (h n)
