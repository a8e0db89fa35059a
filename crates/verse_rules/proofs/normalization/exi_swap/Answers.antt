use Rattle.std.proofs.Math.Logic.{∥∥₁_map}
use Rattle.std.proofs.Common.{ap, ◌∙◌, append-nil}
use Rattle.verse.specs.Syntax.{exists}
use Rattle.verse.specs.Syntax.Sort.{exp}
use Rattle.verse_rules.proofs.Lawfuls.{whole_reads}
use Rattle.pieces.proofs.Shows.{tree_trees}
use Rattle.verse_rules.proofs.Makes.{refused, written, one_tree}
use Rattle.verse_rules.proofs.Sames.{same_one}
use Rattle.verse_rules.proofs.normalization.exi_swap.Goals as goal

pub returns-in_err-under : goal.returns-in_err-under
returns-in_err-under c = λ t inner h e.
    let n = c.in_err-under.ensures exp t (whole_reads h e) in
    refused _ _ _ _ c.from_residual.ensures.1 n.0 (λ l. n.1 (exists l.e) l.is)

pub returns-in_err-e : goal.returns-in_err-e
returns-in_err-e c = λ t inner h e.
    let p = c.in_ok-under.ensures exp t (whole_reads h e) in
    let n = c.in_err-e.ensures exp p.0 p.2 in
    refused _ _ _ _ c.from_residual-in_err-e.ensures.1 n.0 (λ l. n.1 l.e (same_one p.1 l.is))

pub invariant_of-parts-clause-tree : goal.invariant_of-parts-clause-tree
invariant_of-parts-clause-tree c = ∥∥₁_map c.args.redex.lawful (λ r.
    let p = c.in_ok-under.ensures exp r.row (whole_reads r.lawful r.reads) in
    one_tree (c.in_ok-e.ensures exp p.0 p.2).2)

pub returns : goal.returns
returns c = λ t inner h e.
    let p = c.in_ok-under.ensures exp t (whole_reads h e) in
    let q = c.in_ok-e.ensures exp p.0 p.2 in
    written _ _ _ _ c.give.ensures (record { e = q.0; letters = q.2.lawful; is = p.1 ∙ ap exists q.1 }) tt tt (rw (tree_trees q.2.is) (simp append-nil))
