use Rattle.std.proofs.Common.{◌≡◌, get_or, sym, ap, ◌∙◌, arith}
use Rattle.terms.specs.Cells.{kind}
use Rattle.rewriting.proofs.Redexes.{spelling, of_each, kept, the_let, bound_stands, body_within, bound_cells, body_cells}
use Rattle.rewriting.proofs.redex.Redex.as_let.Goals as goal
use Rattle.rewriting.proofs.redex.Redex.as_let.Goals.{Else-kind}

is_let : (c : goal.Else-kind) → kind (get_or c.args.self.cells.now 0 0) ≡ 35
is_let c = sym (c.kind.ensures ∙ ap kind c.head.ensures) ∙ c.if-kind.false

pub invariant_of-bound : goal.invariant_of-bound
invariant_of-bound c =
    let s = spelling c.args.self.lawful in
    record { standing = ∣ (_, bound_stands s (is_let (goal.at.invariant_of-bound c).Else-kind)) ∣₁ }

pub slice_bounds-result-count : goal.slice_bounds-result-count
slice_bounds-result-count c =
    let s = spelling c.args.self.lawful in
    let k = is_let (goal.at.slice_bounds-result-count c).Else-kind in
    let w = body_within s k _ (c.end-body.ensures (the_let s k).a (bound_stands s k)) in
    omega (arith, w)

pub slice_bounds-result-start : goal.slice_bounds-result-start
slice_bounds-result-start c =
    let s = spelling c.args.self.lawful in
    let k = is_let (goal.at.slice_bounds-result-start c).Else-kind in
    let w = body_within s k _ (c.end-body.ensures (the_let s k).a (bound_stands s k)) in
    omega (arith, w)

pub slice_bounds-result-end : goal.slice_bounds-result-end
slice_bounds-result-end c =
    let s = spelling c.args.self.lawful in
    let k = is_let (goal.at.slice_bounds-result-end c).Else-kind in
    let w = body_within s k _ (c.end-body.ensures (the_let s k).a (bound_stands s k)) in
    omega (arith, w)

pub invariant_of-result : goal.invariant_of-result
invariant_of-result c =
    let s = spelling c.args.self.lawful in
    let k = is_let (goal.at.invariant_of-result c).Else-kind in
    record { lawful = kept _ (the_let s k).letters.0 (bound_cells s k _ (c.end-body.ensures (the_let s k).a (bound_stands s k))) }

pub invariant_of-result-2 : goal.invariant_of-result-2
invariant_of-result-2 c =
    let s = spelling c.args.self.lawful in
    let k = is_let (goal.at.invariant_of-result-2 c).Else-kind in
    record { lawful = kept _ (the_let s k).letters.1 (body_cells s k _ (c.end-body.ensures (the_let s k).a (bound_stands s k))) }

pub returns : goal.returns
returns c =
    let s = spelling c.args.self.lawful in
    let k = is_let (goal.at.returns c).Else-kind in
    let e = c.end-body.ensures (the_let s k).a (bound_stands s k) in
    of_each _ s (the_let s k, sym (bound_cells s k _ e), sym (body_cells s k _ e))
