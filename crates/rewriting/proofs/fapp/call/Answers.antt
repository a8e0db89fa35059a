use Rattle.std.proofs.Common.{◌≡◌, ◌+◌, ◌⊎◌, get_or, refl, sym, subst}
use Rattle.std.proofs.lemmas.Bool.Decides.{not_from_Decides}
use Rattle.terms.specs.Cells.{kind, children, payload}
use Rattle.terms.specs.Rows.{size}
use Rattle.rewriting.proofs.Standings.{spelled}
use Rattle.rewriting.proofs.Callings.{left_at, parted, calls_head}
use Rattle.rewriting.proofs.fapp.call.Goals as goal

pub invariant_of-left : goal.invariant_of-left
invariant_of-left c = let g = c.requires in record { standing = ∣ (_, left_at g.lawful g.reads) ∣₁ }

pub returns-then-not-calls : goal.returns-then-not-calls
returns-then-not-calls c = λ program argument o t h e.
    let q = parted o.0 o.1 (1 + size o.0.l) refl in
    let s = spelled t h e in
    (refl, λ l. not_from_Decides _ c.calls.ensures c.if-not-calls.true (subst (λ h. ((kind h ≡ 33) ⊎ (kind h ≡ 34)) × (payload h ≡ payload (get_or c.args.rule.now 1 0)) × (children h ≡ children (get_or c.args.rule.now 1 0))) (sym c.head.ensures) (calls_head s q program argument refl l)))
