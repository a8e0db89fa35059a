-- Trees by their first: its cell, its children, and the others. Assumes nothing.
use Rattle.std.proofs.Common.{◌≡◌, ℕ, ◌+◌, ◌-◌, ◌≤◌, length, get_or, Some, sym, ap, ◌∙◌, arith}
use Rattle.terms.specs.Cells.{children}
use Rattle.terms.specs.Forest.{Are, Part, Headed}
use Rattle.terms.specs.Rows.{Row, size}
use Rattle.terms.specs.Rows.Row.{node}
use Rattle.terms.specs.Standing.{Stands}
use Rattle.terms.specs.declared.forest.Trees.{Trees}
use Rattle.terms.proofs.Steps.{opened}

part_are : {trees part : Trees} {at n : ℕ} {t : Row} → Part trees at n part → Stands t n trees.cells.now at → Are part t
part_are p s = rw (p.cells, p.start, p.count) s

-- the row t is trees that begin with the cell c, whose children are others
pub record Split (trees below : Trees) (c : ℕ) (t : Row) : Type 0 where
  pub ks : Row
  pub r : Row
  pub is : t ≡ node c ks r
  pub start : below.at ≡ trees.at + 1
  pub same : length below.cells.now ≡ length trees.cells.now
  pub here : trees.at + 1 + size ks ≤ length trees.cells.now
  pub kids : Are below ks
  pub others : (part : Trees) (next : ℕ) → next ≡ below.at + size ks → Part trees next (trees.n - 1) part → Are part r

pub split : {trees below : Trees} {c : ℕ} {t : Row} → Headed trees (Some (c, below)) → Are trees t → Split trees below c t
split {trees} {below} {c} {t} h s =
    let o = opened t s (λ z. omega (arith, z, h.0)) in
    let e : c ≡ get_or trees.cells.now trees.at 0 = h.1 in
    let st : Stands o.ks (children c) trees.cells.now (trees.at + 1) = rw e o.first in
    record {
      ks = o.ks;
      r = o.r;
      is = o.is ∙ ap (λ x. node x o.ks o.r) (sym e);
      start = h.2.start;
      same = ap length h.2.cells;
      here = omega (arith, o.within, o.sized);
      kids = part_are h.2 st;
      others = λ part next e p. part_are p (rw (e, h.2.start) o.others);
    }
