-- The trees of a scope: the first with its children, and the others. Assumes nothing.
use Rattle.std.proofs.Common.{◌≡◌, ℕ, suc, ◌+◌, ◌-◌, ◌≤◌, Bool, true, false, cond, eqb, List, length, get_or, sym, refl, ap, ◌∙◌, subst, inl, inr, arith}
use Rattle.std.proofs.lemmas.Bool.Decides.{nat_tests}
use Rattle.terms.specs.Cells.{children}
use Rattle.terms.specs.Forest.{Are, Part, Ended}
use Rattle.terms.specs.Rows.{Row, size, above}
use Rattle.terms.specs.Rows.Row.{none, node}
use Rattle.terms.specs.Standing.{Stands}
use Rattle.terms.specs.declared.forest.Trees.{Trees}
use Rattle.terms.proofs.Inject.{empty}
use Rattle.terms.proofs.Standings.{standing, stands_same}
use Rattle.terms.proofs.Steps.{Opened, opened, under_is}
use Rattle.moves.specs.declared.scope.Scope.{Scope}
use Rattle.moves.specs.Renamings.{first_above}
use Rattle.moves.specs.Scopes.{Inner, Rest}

-- trees of the same cells
pub part_are : {trees part : Trees} {at n : ℕ} {t : Row} → Part trees at n part → Stands t n trees.cells.now at → Are part t
part_are p s = rw (p.cells, p.start, p.count) s

pub are_part : {trees part : Trees} {at n : ℕ} {t : Row} → Part trees at n part → Are part t → Stands t n trees.cells.now at
are_part p s = rw (← p.cells, ← p.start, ← p.count) s

-- a scope's trees
abbrev pub row : Scope → Row
row s = (standing s.trees.standing).0

-- the binders above the first tree of a row
first_is : {t : Row} {n at : ℕ} {cells : List ℕ} (o : Opened t n at cells) (d b e : ℕ) → (n ≡ 0 → ⊥) → e ≡ first_above n d b → e ≡ above d b o.r
first_is {n = n} o d b e h w = w ∙ go (eqb n 1) refl
  where
    go : (q : Bool) → eqb n 1 ≡ q → cond q (d + b) d ≡ above d b o.r
    go true k =
        let i : n ≡ 1 = grind (arith, nat_tests) in
        under_is o d b (d + b) h (inl (i, refl))
    go false k = under_is o d b d h (inr (λ i. grind (arith, nat_tests), refl))

-- the row of a scope's trees, as the first with its children and the others
pub record Cut (s : Scope) (c : ℕ) (i : Scope) (t : Row) : Type 0 where
  pub ks : Row
  pub r : Row
  pub is : t ≡ node c ks r
  pub sized : size t ≡ suc (size ks + size r)
  pub within : s.trees.at + size t ≤ length s.trees.cells.now
  pub above : i.d ≡ above s.d s.b r
  pub inner : Are i.trees ks
  pub starts : i.trees.at ≡ s.trees.at + 1
  pub others : Stands r (s.trees.n - 1) s.trees.cells.now (s.trees.at + 1 + size ks)

pub cut : {s : Scope} {c : ℕ} {i : Scope} {t : Row} → Inner s c i → Are s.trees t → Cut s c i t
cut {s} {c} {i} {t} p a =
    let o = opened t a (λ e. omega (arith, e, p.some)) in
    let k : children c ≡ children (get_or s.trees.cells.now s.trees.at 0) = ap children p.cell in
    record {
      ks = o.ks;
      r = o.r;
      is = o.is ∙ ap (λ x. node x o.ks o.r) (sym p.cell);
      sized = o.sized;
      within = o.within;
      above = first_is o s.d s.b i.d (λ e. omega (arith, e, p.some)) p.above;
      inner = part_are p.part (subst (λ n. Stands o.ks n s.trees.cells.now (s.trees.at + 1)) (sym k) o.first);
      starts = p.part.start;
      others = o.others;
    }

-- where the children end, the first tree ends
pub ended : {s : Scope} {c : ℕ} {i : Scope} {next : ℕ} → Inner s c i → ((ks : Row) → Are i.trees ks → next ≡ s.trees.at + 1 + size ks) → Ended s.trees next
ended {s} {c} {i} {next} p h =
    λ ks st. h ks (part_are p.part (subst (λ x. Stands ks (children x) s.trees.cells.now (s.trees.at + 1)) (sym p.cell) st))

-- the other trees, as they are handed on
pub rest_are : {s : Scope} {c : ℕ} {i : Scope} {t : Row} {q : Scope} {next : ℕ} (k : Cut s c i t) → Rest s next q → next ≡ s.trees.at + 1 + size k.ks → Are q.trees k.r
rest_are {s} k p e = part_are p.part (subst (Stands k.r (s.trees.n - 1) s.trees.cells.now) (sym e) k.others)

-- no trees
pub no_trees : {t : Row} {n at : ℕ} {cells : List ℕ} → n ≡ 0 → Stands t n cells at → t ≡ none
no_trees {t = t} e a = empty t (a.wide ∙ e)

-- trees that one row shows to fit do fit
pub fits : {t : Row} {n at most : ℕ} {cells : List ℕ} → Stands t n cells at → size t ≤ most → (u : Row) → Stands u n cells at → size u ≤ most
fits {most = most} s l u r = subst (λ v. size v ≤ most) (stands_same s r) l
