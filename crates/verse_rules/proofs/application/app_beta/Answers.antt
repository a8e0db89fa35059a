use Rattle.std.proofs.Math.Logic.{∥∥₁_map}
use Rattle.std.proofs.Common.{refl, ap, ◌∙◌}
use Rattle.terms.specs.Rows.{up}
use Rattle.verse.specs.Syntax.{app, lambda}
use Rattle.verse.specs.Syntax.Sort.{val, exp}
use Rattle.verse_rules.proofs.Lawfuls.{whole_reads}
use Rattle.pieces.proofs.Shows.{tree_trees}
use Rattle.verse_rules.proofs.Makes.{refused, written, one_tree}
use Rattle.verse_rules.proofs.Sames.{same_two, flat_beta}
use Rattle.verse_rules.proofs.application.app_beta.Goals as goal

pub returns-in_err-f : goal.returns-in_err-f
returns-in_err-f c = λ t inner h e.
    let n = c.in_err-f.ensures exp t (whole_reads h e) in
    refused _ _ _ _ c.from_residual.ensures.1 n.0 (λ l. n.1 (lambda l.e) l.v l.is)

pub returns-in_err-e : goal.returns-in_err-e
returns-in_err-e c = λ t inner h e.
    let p = c.in_ok-f.ensures exp t (whole_reads h e) in
    let n = c.in_err-e.ensures val p.0 p.3 in
    refused _ _ _ _ c.from_residual-in_err-e.ensures.1 n.0 (λ l. n.1 l.e (same_two (lambda l.e) l.v p.2 p.3 l.is refl).0)

pub invariant_of-parts-clause-tree : goal.invariant_of-parts-clause-tree
invariant_of-parts-clause-tree c = ∥∥₁_map c.args.redex.lawful (λ r. one_tree (c.in_ok-f.ensures exp r.row (whole_reads r.lawful r.reads)).4)

pub returns : goal.returns
returns c = λ t inner h e.
    let p = c.in_ok-f.ensures exp t (whole_reads h e) in
    let q = c.in_ok-e.ensures val p.0 p.3 in
    written _ _ _ _ c.give.ensures (record { e = q.0; v = p.1; letters = (q.2.lawful, p.4.lawful); is = p.2 ∙ ap (λ x. app x p.1) q.1 }) tt tt (rw (c.variable_cell.ensures, tree_trees p.4.is, ← q.2.is.reads) (flat_beta (up p.1) q.0))
