-- Down a place and one entry further: what is there, and the cells before it. Assumes nothing.
use Rattle.std.proofs.Common.{◌≡◌, ℕ, zero, suc, ◌+◌, ◌-◌, ◌<◌, ◌≤◌, ◌⊎◌, List, [], ◌∷◌, ◌++◌, length, get_or, take, drop, Some, None, Option, sym, refl, ap, ◌∙◌, subst, inl, inr, append_assoc, append-nil, add-one, arith, length-append}
use Rattle.std.proofs.lemmas.List.{drop_at, take_more, take_all}
use Rattle.std.proofs.Common.{Result, Ok, Err}
use Rattle.std.specs.Result.{MatchResult}
use Rattle.terms.specs.declared.place.Astray.{Astray}
use Rattle.terms.specs.declared.place.Astray.TheVariants.{Entry}
use Rattle.terms.specs.Cells.{children}
use Rattle.terms.specs.Descents.{ChildAt, Reached, Descended}
use Rattle.terms.specs.Rows.{Row, flat, size, width, ◌&◌, pick, Place, before, after}
use Rattle.terms.specs.Rows.Row.{none, node}
use Rattle.terms.specs.Standing.{Stands, Ends}
use Rattle.terms.specs.Terms.{TreeOf}
use Rattle.terms.specs.Places.{CellAt, Strays}
use Rattle.terms.proofs.Inject.{under}
use Rattle.terms.proofs.Bridge.{place_join}
use Rattle.terms.proofs.Unique.{one_tree}
use Rattle.terms.proofs.Steps.{opened, moved}
use Rattle.terms.proofs.Trees.{flat_size, flat-&, same, pick_one, pick_flat}
use Rattle.terms.proofs.Wholes.{pick_counted}
use Rattle.terms.proofs.Skips.{halves}

-- a row has the trees below its width
pub place_width : (t : Row) (n : ℕ) → Place t n [] → n < width t
place_width none n h = absurd h
place_width (node c ks r) zero h = omega arith
place_width (node c ks r) (suc n) h = omega (arith, place_width r n h)

pub width_place : (t : Row) (n : ℕ) → n < width t → Place t n []
width_place none n h = absurd (omega arith)
width_place (node c ks r) zero h = tt
width_place (node c ks r) (suc n) h = width_place r n (omega arith)

-- a place followed by another
pub place_front : (t : Row) (i : ℕ) (p q : List ℕ) → Place t i (p ++ q) → Place t i p
place_front none i p q h = absurd h
place_front (node c ks r) zero [] q h = tt
place_front (node c ks r) zero (j ∷ p) q h = place_front ks j p q h
place_front (node c ks r) (suc i) p q h = place_front r i p q h

pub place_apart : (t : Row) (i : ℕ) (p q : List ℕ) → Place t i (p ++ q) → Place (pick t i p) 0 q
place_apart none i p q h = absurd h
place_apart (node c ks r) zero [] [] h = tt
place_apart (node c ks r) zero [] (j ∷ q) h = h
place_apart (node c ks r) zero (j ∷ p) q h = place_apart ks j p q h
place_apart (node c ks r) (suc i) p q h = place_apart r i p q h

pub before_join : (t : Row) (i : ℕ) (p q : List ℕ) → Place t i p → before t i (p ++ q) ≡ before t i p ++ before (pick t i p) 0 q
before_join none i p q h = absurd h
before_join (node c ks r) zero [] [] h = refl
before_join (node c ks r) zero [] (j ∷ q) h = refl
before_join (node c ks r) zero (j ∷ p) q h = ap (λ l. c ∷ l) (before_join ks j p q h)
before_join (node c ks r) (suc i) p q h =
    ap (λ l. c ∷ flat ks ++ l) (before_join r i p q h) ∙ ap (λ l. c ∷ l) (sym (append_assoc (flat ks) (before r i p) (before (pick r i p) 0 q)))

-- the cells before a tree are those of the trees left of it
pub before-& : (a b : Row) → 0 < width b → before (a & b) (width a) [] ≡ flat a
before-& none none h = absurd (omega arith)
before-& none (node c ks r) h = refl
before-& (node c ks r) b h = ap (λ l. c ∷ flat ks ++ l) (before-& r b h)

-- n trees at a cell, the first of a wider row that stands there, have the cells before its tree number n
pub first_cells : (ks s : Row) (m n : ℕ) (cells : List ℕ) (at : ℕ) → Stands ks m cells at → n < width ks → Stands s n cells at → size s ≡ length (before ks n [])
first_cells ks s m n cells at p h q =
    let v = halves ks n (width ks - n) (omega arith) p.counted in
    let e : flat v.a ++ (flat v.b ++ p.rest) ≡ flat s ++ q.rest =
    sym (append_assoc (flat v.a) (flat v.b) p.rest) ∙ ap (λ l. l ++ p.rest) (sym (flat-& v.a v.b) ∙ ap flat (sym v.is)) ∙ p.reads ∙ sym q.reads in
    let o = (same v.a s (flat v.b ++ p.rest) q.rest v.counted_a q.counted (v.left ∙ sym q.wide) e).0 in
    let b = before-& v.a v.b (omega (arith, v.right)) in
    let n-is = v.left in
    ap size (sym o) ∙ sym (flat_size v.a) ∙ ap length (sym b ∙ ap (λ k. before (v.a & v.b) k []) n-is ∙ ap (λ t. before t n []) (sym v.is))

-- the part at a place stands behind the cells before it
pub part_stands : (cells : List ℕ) (t : Row) (p : List ℕ) → TreeOf cells t → Place t 0 p → Stands (pick t 0 p) 1 cells (length (before t 0 p))
part_stands cells t p is h =
    record {
      counted = pick_counted t 0 p is.counted;
      wide = pick_one t 0 p h;
      rest = after t 0 p;
      reads = sym (drop_at (before t 0 p) (flat (pick t 0 p) ++ after t 0 p) (length (before t 0 p)) refl) ∙ ap (drop (length (before t 0 p))) (sym (pick_flat t 0 p h) ∙ is.reads);
    }

-- a part is one cell with its children
pub part_node : (t : Row) → width t ≡ 1 → (c : ℕ) × (ks : Row) × (t ≡ node c ks none)
part_node none w = absurd (omega arith)
part_node (node c ks none) w = (c, ks, refl)
part_node (node c ks (node d js r)) w = absurd (omega arith)

-- the term at a cell has a child of that number where as many trees stand before it
pub child_is : (cells : List ℕ) (at n : ℕ) (r : Option ℕ) → n < children (get_or cells at 0) → Ends n cells (at + 1) r → ChildAt cells at n r
child_is cells at n (Some e) h (s, q, k) = λ c ks p.
    let o = opened (node c ks none) p (λ z. omega arith) in
    let is : ks ≡ o.ks = ap under o.is in
    let first = subst (λ x. Stands x (children (get_or cells at 0)) cells (at + 1)) (sym is) o.first in
    let w : n < width ks = omega (arith, first.wide) in
    (w, omega (arith, k, first_cells ks s _ n cells (at + 1) first w q))
child_is cells at n None h z = λ c ks p.
    let o = opened (node c ks none) p (λ z. omega arith) in
    let is : ks ≡ o.ks = ap under o.is in
    let first = o.first in
    let v = halves o.ks n (width o.ks - n) (omega (arith, first.wide)) first.counted in
    absurd (z v.a (record {
      counted = v.counted_a;
      wide = v.left;
      rest = flat v.b ++ first.rest;
      reads = sym (append_assoc (flat v.a) (flat v.b) first.rest) ∙ ap (λ l. l ++ first.rest) (sym (flat-& v.a v.b) ∙ ap flat (sym v.is)) ∙ first.reads;
    }))

pub no_child : (cells : List ℕ) (at n : ℕ) → (length cells ≤ at) ⊎ (children (get_or cells at 0) ≤ n) → ChildAt cells at n None
no_child cells at n (inl h) = λ c ks p. let o = opened (node c ks none) p (λ z. omega arith) in absurd (omega (arith, o.within, o.sized))
no_child cells at n (inr h) = λ c ks p.
    let o = opened (node c ks none) p (λ z. omega arith) in
    let w = ap width (ap under o.is) in
    omega (arith, h, w, o.first.wide)

-- a place is gone down as far as its entry number k, and the part there stands at a cell
pub record Come (cells place : List ℕ) (t : Row) (k at : ℕ) : Type 0 where
  pub there : Place t 0 (take k place)
  pub cell : at ≡ length (before t 0 (take k place))

module _ (cells place : List ℕ) (t : Row) (k at : ℕ) (is : TreeOf cells t) (h : k < length place) (come : Come cells place t k at) where
  part : Row
  part = pick t 0 (take k place)

  standing : (c : ℕ) (ks : Row) → part ≡ node c ks none → Stands (node c ks none) 1 cells at
  unfolding part
  standing c ks e = moved (subst (λ x. Stands x 1 cells (length (before t 0 (take k place)))) e (part_stands cells t (take k place) is come.there)) refl come.cell

  pub further : (next : ℕ) → ChildAt cells at (get_or place k 0) (Some next) → Come cells place t (k + 1) next
  unfolding part
  further next f =
      let n = get_or place k 0 in
      let one = part_node part (pick_one t 0 (take k place) come.there) in
      let e = one.2 in
      let g = f one.0 one.1 (standing one.0 one.1 e) in
      let more = take_more place k 0 h in
      let b = before_join t 0 (take k place) (n ∷ []) come.there in
      let len = length-append (before t 0 (take k place)) (before part 0 (n ∷ [])) in
      record {
        there = subst (Place t 0) (sym more) (place_join t 0 (take k place) (n ∷ []) come.there (subst (λ x. Place x 0 (n ∷ [])) (sym e) (width_place one.1 n g.0)));
        cell = omega (arith, g.1, come.cell, len, ap (λ x. length (before x 0 (n ∷ []))) e, ap length b, ap (λ p. length (before t 0 p)) more);
      }

  pub strays : ChildAt cells at (get_or place k 0) None → Strays place cells k
  unfolding part
  strays f =
      let n = get_or place k 0 in
      let one = part_node part (pick_one t 0 (take k place) come.there) in
      let e = one.2 in
      let g = f one.0 one.1 (standing one.0 one.1 e) in
      record {
        entry = h;
        so_far = record { tree = t; is = is; there = come.there };
        astray = λ m.
            let same-tree = one_tree cells m.tree t m.is is in
            let p : Place t 0 (take k place ++ n ∷ []) = subst (Place t 0) (ap (λ j. take j place) (sym (add-one k)) ∙ take_more place k 0 h) (subst (λ x. Place x 0 (take (suc k) place)) same-tree m.there) in
            let q : Place (node one.0 one.1 none) 0 (n ∷ []) = subst (λ x. Place x 0 (n ∷ [])) e (place_apart t 0 (take k place) (n ∷ []) p) in
            omega (arith, place_width one.1 n q, g);
      }

-- the whole place is gone down
pub come_all : (cells place : List ℕ) (t : Row) (at : ℕ) → TreeOf cells t → Come cells place t (length place) at → CellAt cells place at
come_all cells place t at is come =
    let e : take (length place) place ≡ place = take_all (length place) place (omega arith) in
    let there = subst (Place t 0) e come.there in
    record {
      left = before t 0 place;
      part = flat (pick t 0 place);
      right = after t 0 place;
      at = record { tree = t; is = is; there = there; lefts = refl; parts = refl; rights = refl };
      is = come.cell ∙ ap (λ p. length (before t 0 p)) e;
    }

-- the root of a term
pub come_none : (cells place : List ℕ) (t : Row) → TreeOf cells t → Come cells place t 0 0
come_none cells place none is = absurd (omega (arith, is.one))
come_none cells place (node c ks r) is = record { there = tt; cell = refl }

-- the cells of a term end with it, and no other cells are a term
pub tree_ends : (cells : List ℕ) (e : ℕ) → Ends 1 cells 0 (Some e) → e ≡ length cells → (t : Row) × TreeOf cells t
tree_ends cells e (t, s, k) z =
    let l : length (flat t) + length s.rest ≡ length cells = sym (length-append (flat t) s.rest) ∙ ap length s.reads in
    let none_left : s.rest ≡ [] = empty_list s.rest (omega (arith, l, flat_size t, k, z)) in
    (t, record { one = s.wide; counted = s.counted; reads = sym (append-nil (flat t)) ∙ ap (λ l. flat t ++ l) (sym none_left) ∙ s.reads })
  where
    empty_list : (l : List ℕ) → length l ≡ 0 → l ≡ []
    empty_list [] h = refl
    empty_list (x ∷ xs) h = absurd (omega arith)

pub tree_stands : (cells : List ℕ) (t : Row) → TreeOf cells t → Stands t 1 cells 0
tree_stands cells t is = record { counted = is.counted; wide = is.one; rest = []; reads = append-nil (flat t) ∙ is.reads }

pub ends_tree : (cells : List ℕ) (e : ℕ) (t : Row) → Ends 1 cells 0 (Some e) → TreeOf cells t → e ≡ length cells
unfolding tree_stands
ends_tree cells e t (u, s, k) is =
    let p = tree_stands cells t is in
    let o = (same u t s.rest [] s.counted is.counted (s.wide ∙ sym is.one) (s.reads ∙ sym p.reads)).0 in
    omega (arith, k, ap size o, flat_size t, ap length is.reads)

-- what is answered of cells that are a term is answered of any
pub descended : (cells place : List ℕ) (r : Result ℕ ℕ) (q : Result ℕ Astray) → MatchResult r (λ x. q ≡ Ok x) (λ e. q ≡ Err (Entry e)) → Reached cells place r → Descended cells place q
descended cells place (Ok x) q m h = subst (Descended cells place) (sym m) h
descended cells place (Err e) q m h = subst (Descended cells place) (sym m) h
