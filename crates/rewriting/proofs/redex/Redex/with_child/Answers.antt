use Rattle.std.proofs.Common.{◌-◌, ◌<◌, ◌≤◌, get_or, refl, sym, ap, ◌∙◌, subst, arith}
use Rattle.std.proofs.lemmas.Bool.Decides.{not_from_Decides}
use Rattle.terms.specs.Cells.{kind, children}
use Rattle.terms.proofs.Steps.{moved}
use Rattle.rewriting.proofs.Standings.{spelled}
use Rattle.rewriting.proofs.Symbols.{head_here, head_kind, head_children}
use Rattle.rewriting.proofs.Redexes.{spelling, of_each, kept, at_front, the_symbol, before_stands, child_stands, child_within, child_cells, after_stands}
use Rattle.rewriting.proofs.redex.Redex.with_child.Goals as goal
use Rattle.rewriting.proofs.redex.Redex.with_child.Goals.{Else-n-count, then-not-is_head-via-then-not-is_head, then-not-is_head-via-else-not-is_head+then-n-count}

-- the first cell is that of a symbol, with such a child
is_symbol : (c : goal.Else-n-count) → (32 ≤ kind (get_or c.args.self.cells.now 0 0)) × (kind (get_or c.args.self.cells.now 0 0) ≤ 34)
is_symbol c = subst (λ x. (32 ≤ kind x) × (kind x ≤ 34)) c.head-head.ensures (c.is_head.ensures.0 c.if-not-is_head.false)

has_child : (c : goal.Else-n-count) → c.args.n < children (get_or c.args.self.cells.now 0 0)
has_child c = subst (λ m. c.args.n < m) (c.children-count.ensures ∙ ap children c.head-head.ensures) c.if-n-count.false

pub returns-then-not-is_head : goal.returns-then-not-is_head
returns-then-not-is_head c = λ t h. (
  refl,
  λ l.
      let s = spelled t h.0 h.1 in
      let few = head_children s l in
      elim c.then-not-is_head.branch [
        | then-not-is_head-via-then-not-is_head w ↦ not_from_Decides _ c.is_head.ensures w.if-not-is_head.true (subst (λ x. (32 ≤ kind x) × (kind x ≤ 34)) (sym c.head-head.ensures) (head_kind s l))
        | then-not-is_head-via-else-not-is_head+then-n-count w ↦ omega (arith, few, c.children-count.ensures, ap children c.head-head.ensures, w.if-n-count.true)
      ],
)

pub invariant_of-before : goal.invariant_of-before
invariant_of-before c =
    let p = (goal.at.invariant_of-before c).Else-n-count in
    record { standing = ∣ (_, before_stands (spelling c.args.self.lawful) c.args.n (is_symbol p) (has_child p)) ∣₁ }

pub invariant_of-child : goal.invariant_of-child
invariant_of-child c =
    let p = (goal.at.invariant_of-child c).Else-n-count in
    let s = spelling c.args.self.lawful in
    let l = the_symbol s c.args.n (is_symbol p) (has_child p) in
    let e = c.end.ensures l.before (before_stands s c.args.n (is_symbol p) (has_child p)) in
    record { standing = ∣ (_, child_stands s c.args.n (is_symbol p) (has_child p) _ e) ∣₁ }

pub slice_bounds-result-count : goal.slice_bounds-result-count
slice_bounds-result-count c =
    let p = (goal.at.slice_bounds-result-count c).Else-n-count in
    let s = spelling c.args.self.lawful in
    let l = the_symbol s c.args.n (is_symbol p) (has_child p) in
    let e = c.end.ensures l.before (before_stands s c.args.n (is_symbol p) (has_child p)) in
    let f = c.end-2.ensures l.e (child_stands s c.args.n (is_symbol p) (has_child p) _ e) in
    let w = child_within s c.args.n (is_symbol p) (has_child p) _ e _ f in
    omega (arith, w)

pub slice_bounds-result-start : goal.slice_bounds-result-start
slice_bounds-result-start c =
    let p = (goal.at.slice_bounds-result-start c).Else-n-count in
    let s = spelling c.args.self.lawful in
    let l = the_symbol s c.args.n (is_symbol p) (has_child p) in
    let e = c.end.ensures l.before (before_stands s c.args.n (is_symbol p) (has_child p)) in
    let f = c.end-2.ensures l.e (child_stands s c.args.n (is_symbol p) (has_child p) _ e) in
    let w = child_within s c.args.n (is_symbol p) (has_child p) _ e _ f in
    omega (arith, w)

pub slice_bounds-result-end : goal.slice_bounds-result-end
slice_bounds-result-end c =
    let p = (goal.at.slice_bounds-result-end c).Else-n-count in
    let s = spelling c.args.self.lawful in
    let l = the_symbol s c.args.n (is_symbol p) (has_child p) in
    let e = c.end.ensures l.before (before_stands s c.args.n (is_symbol p) (has_child p)) in
    let f = c.end-2.ensures l.e (child_stands s c.args.n (is_symbol p) (has_child p) _ e) in
    let w = child_within s c.args.n (is_symbol p) (has_child p) _ e _ f in
    omega (arith, w)

pub offset_bounds-self-child : goal.offset_bounds-self-child
offset_bounds-self-child c =
    let p = (goal.at.offset_bounds-self-child c).Else-n-count in
    let s = spelling c.args.self.lawful in
    let l = the_symbol s c.args.n (is_symbol p) (has_child p) in
    let e = c.end.ensures l.before (before_stands s c.args.n (is_symbol p) (has_child p)) in
    let f = c.end-2.ensures l.e (child_stands s c.args.n (is_symbol p) (has_child p) _ e) in
    let w = child_within s c.args.n (is_symbol p) (has_child p) _ e _ f in
    omega (arith, w)

pub invariant_of-after : goal.invariant_of-after
invariant_of-after c =
    let p = (goal.at.invariant_of-after c).Else-n-count in
    let s = spelling c.args.self.lawful in
    let l = the_symbol s c.args.n (is_symbol p) (has_child p) in
    let e = c.end.ensures l.before (before_stands s c.args.n (is_symbol p) (has_child p)) in
    let f = c.end-2.ensures l.e (child_stands s c.args.n (is_symbol p) (has_child p) _ e) in
    record { standing = ∣ (_, moved (after_stands s c.args.n (is_symbol p) (has_child p) _ e _ f) (ap (λ m. m - c.args.n - 1) (c.children-count.ensures ∙ ap children c.head-head.ensures)) refl) ∣₁ }

pub invariant_of-result : goal.invariant_of-result
invariant_of-result c =
    let p = (goal.at.invariant_of-result c).Else-n-count in
    let s = spelling c.args.self.lawful in
    let l = the_symbol s c.args.n (is_symbol p) (has_child p) in
    let e = c.end.ensures l.before (before_stands s c.args.n (is_symbol p) (has_child p)) in
    let f = c.end-2.ensures l.e (child_stands s c.args.n (is_symbol p) (has_child p) _ e) in
    record { lawful = kept _ l.letters.1 (child_cells s c.args.n (is_symbol p) (has_child p) _ e _ f) }

pub returns : goal.returns
returns c =
    let p = (goal.at.returns c).Else-n-count in
    let s = spelling c.args.self.lawful in
    let l = the_symbol s c.args.n (is_symbol p) (has_child p) in
    let b = before_stands s c.args.n (is_symbol p) (has_child p) in
    let e = c.end.ensures l.before b in
    let f = c.end-2.ensures l.e (child_stands s c.args.n (is_symbol p) (has_child p) _ e) in
    let a = moved (after_stands s c.args.n (is_symbol p) (has_child p) _ e _ f) (ap (λ m. m - c.args.n - 1) (c.children-count.ensures ∙ ap children c.head-head.ensures)) refl in
    of_each _ s (l, c.head-head.ensures ∙ sym (head_here (at_front s) l), b, sym (child_cells s c.args.n (is_symbol p) (has_child p) _ e _ f), a)
