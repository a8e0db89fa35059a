use Rattle.std.proofs.Math.Logic.{∥∥₁_map}
use Rattle.std.proofs.Common.{refl, subst}
use mathlib.Core.Bool.{false≢true}
use Rattle.verse.specs.Syntax.Sort.{exp}
use Rattle.verse.specs.Lines.{Binds, Deep}
use Rattle.verse.proofs.Unique.{same_binds}
use Rattle.verse_rules.proofs.Lawfuls.{whole_reads}
use Rattle.verse_rules.proofs.Makes.{refused, written, one_tree}
use Rattle.verse_rules.proofs.unification.u_occurs.Goals as goal

pub returns-in_err-x : goal.returns-in_err-x
returns-in_err-x c = λ t inner h e.
    let n = c.in_err-x.ensures exp t (whole_reads h e) in
    refused _ _ _ _ c.from_residual.ensures.1 n.0 n.1

pub lies_deep-requires : goal.lies_deep-requires
lies_deep-requires c = ∥∥₁_map c.args.redex.lawful (λ r. one_tree (c.in_ok-x.ensures exp r.row (whole_reads r.lawful r.reads)).4)

pub returns-then-not-lies_deep : goal.returns-then-not-lies_deep
returns-then-not-lies_deep c = λ t inner h e.
    let b = c.in_ok-x.ensures exp t (whole_reads h e) in
    let l : Binds t = record { x = c.in_ok-x.x; v = b.0; e = b.1; letters = (b.2, b.4.lawful, b.5.lawful); is = b.3 } in (
      refl,
      (
        l,
        λ m d.
            let s = same_binds t t refl m l in
            false≢true ((c.if-not-lies_deep.ensures b.0 b.4).1 (subst (λ x. Deep x b.0) s.0 (subst (Deep m.x) s.1 d))),
      ),
    )

pub returns : goal.returns
returns c = λ t inner h e.
    let b = c.in_ok-x.ensures exp t (whole_reads h e) in
    let l : Binds t = record { x = c.in_ok-x.x; v = b.0; e = b.1; letters = (b.2, b.4.lawful, b.5.lawful); is = b.3 } in
    written _ _ _ _ c.give.ensures l ((c.if-not-lies_deep.ensures b.0 b.4).0 refl) tt refl
