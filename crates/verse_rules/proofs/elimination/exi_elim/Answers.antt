use Rattle.std.proofs.Math.Logic.{∥∥₁_map}
use Rattle.moves.proofs.Calls.{term_stands}
use Rattle.std.proofs.Common.{refl, subst, append-nil}
use Rattle.terms.specs.Rows.{Free}
use Rattle.verse.specs.Syntax.Sort.{exp}
use Rattle.verse_rules.proofs.Lawfuls.{whole_reads}
use Rattle.pieces.proofs.Shows.{tree_trees, tree_standing}
use Rattle.verse_rules.proofs.Makes.{refused, written, one_tree}
use Rattle.verse_rules.proofs.Sames.{same_one}
use Rattle.verse_rules.proofs.elimination.exi_elim.Goals as goal

pub returns-in_err-e : goal.returns-in_err-e
returns-in_err-e c = λ t inner h e.
    let n = c.in_err-e.ensures exp t (whole_reads h e) in
    refused _ _ _ _ c.from_residual.ensures.1 n.0 (λ l. n.1 l.e l.is)

pub invariant_of-body : goal.invariant_of-body
invariant_of-body c =
    record { standing = tree_standing (∥∥₁_map c.args.redex.lawful (λ r. one_tree (c.in_ok-e.ensures exp r.row (whole_reads r.lawful r.reads)).2)) }

pub invariant_of-give-clause-tree : goal.invariant_of-give-clause-tree
invariant_of-give-clause-tree c = ∥∥₁_map c.args.redex.lawful (λ r. one_tree (c.in_ok-e.ensures exp r.row (whole_reads r.lawful r.reads)).2)

pub returns-in-Some : goal.returns-in-Some
returns-in-Some c = λ t inner h e.
    let p = c.in_ok-e.ensures exp t (whole_reads h e) in
    let f = c.in-Some.ensures p.0 (term_stands p.2.is) in
    (refl, (record { e = p.0; letters = p.2.lawful; is = p.1 }, λ l no. no (subst (Free 0) (same_one p.1 l.is) f.2.free)))

pub returns-in-None : goal.returns-in-None
returns-in-None c = λ t inner h e.
    let p = c.in_ok-e.ensures exp t (whole_reads h e) in
    written _ _ _ _ c.give.ensures (record { e = p.0; letters = p.2.lawful; is = p.1 }) (c.in-None.ensures p.0 (term_stands p.2.is)) tt (rw (tree_trees p.2.is) (append-nil _))
