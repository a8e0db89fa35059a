-- The terms of a redex and where their parts stand. Assumes nothing.
use Rattle.std.proofs.Common.{◌≡◌, ℕ, ◌+◌, ◌<◌, ◌≤◌, List, [], ◌++◌, length, get_or, sym, refl, ap, ◌∙◌, append-nil, arith}
use Rattle.terms.specs.Cells.{kind}
use Rattle.terms.specs.Rows.{Row, flat, size, width, kind_of, ◌&◌, Counted}
use Rattle.terms.specs.Rows.Row.{none, node}
use Rattle.terms.specs.Standing.{Stands}
use Rattle.terms.proofs.Inject.{top, under}
use Rattle.terms.proofs.Trees.{flat_size}
use Rattle.terms.proofs.Bridge.{formed_counted}
use Rattle.terms.proofs.Steps.{opened}
use Rattle.terms.proofs.Endings as Endings
use Rattle.lets.specs.Syntax.{Term}
use Rattle.lets.proofs.Meaning.{formed}

-- a lawful term stands at a cell
pub record TermAt (t : Row) (cells : List ℕ) (at : ℕ) : Type 0 where
  pub lawful : Term t
  pub stands : Stands t 1 cells at

-- a lawful term stands at the front of the cells that it fills
pub spelled : {cells : List ℕ} (t : Row) → Term t → flat t ≡ cells → TermAt t cells 0
spelled t h e =
    record {
      lawful = h;
      stands = record { counted = formed_counted t (formed t h).1; wide = (formed t h).0; rest = []; reads = append-nil (flat t) ∙ e };
    }

pub spelled_size : {cells : List ℕ} (t : Row) → flat t ≡ cells → size t ≡ length cells
spelled_size t e = sym (flat_size t) ∙ ap length e

counted_apart : (a b : Row) → Counted (a & b) → Counted a × Counted b
counted_apart none b g = (tt, g)
counted_apart (node c ks r) b g = let q = counted_apart r b g.3 in ((g.0, g.1, g.2, q.0), q.1)

-- of two rows side by side the first stands first, the other where that ends
pub stands_left : (a b : Row) {n at : ℕ} {cells : List ℕ} → Stands (a & b) n cells at → Stands a (width a) cells at
stands_left a b s = Endings.stands_left a b s (counted_apart a b s.counted).0

pub stands_right : (a b : Row) {n at : ℕ} {cells : List ℕ} → Stands (a & b) n cells at → Stands b (width b) cells (at + size a)
stands_right a b s = Endings.stands_right a b s (counted_apart a b s.counted).1 _ refl

-- the cell of a tree, and its children from the next on
module _ (c : ℕ) (ks : Row) {at : ℕ} {cells : List ℕ} (s : Stands (node c ks none) 1 cells at) where
  pub cell_here : c ≡ get_or cells at 0
  cell_here = ap top (opened (node c ks none) s (λ e. omega arith)).is

  pub kids_here : Stands ks (width ks) cells (at + 1)
  kids_here =
      let o = opened (node c ks none) s (λ e. omega arith) in
      let is : ks ≡ o.ks = ap under o.is in
      record {
        counted = s.counted.2;
        wide = refl;
        rest = o.first.rest;
        reads = ap (λ k. flat k ++ o.first.rest) is ∙ o.first.reads;
      }

  pub tree_within : at + size (node c ks none) ≤ length cells
  tree_within = (opened (node c ks none) s (λ e. omega arith)).within

-- a lawful term that stands at a cell: that is its first, and its kind
pub top_here : (t : Row) {at : ℕ} {cells : List ℕ} → TermAt t cells at → top t ≡ get_or cells at 0
top_here none s = absurd s.lawful
top_here (node c ks (node d js r)) s = absurd s.lawful.2
top_here (node c ks none) s = cell_here c ks s.stands

pub kind_here : (t : Row) {at : ℕ} {cells : List ℕ} → TermAt t cells at → kind_of t ≡ kind (get_or cells at 0)
kind_here none s = absurd s.lawful
kind_here (node c ks (node d js r)) s = absurd s.lawful.2
kind_here (node c ks none) s = ap kind (cell_here c ks s.stands)

-- one tree has a cell
pub tree_here : {t : Row} {at : ℕ} {cells : List ℕ} → Stands t 1 cells at → at < length cells
tree_here {t} s = let o = opened t s (λ e. omega arith) in omega (arith, o.within, o.sized)
