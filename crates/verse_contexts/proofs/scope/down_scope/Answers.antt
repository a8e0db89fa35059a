use Rattle.std.proofs.Common.{◌≡◌, ◌-◌, ◌∷◌, length, get_or, take, drop, ap, ◌∙◌, subst, arith}
use Rattle.verse.specs.Contexts.{SC}
use Rattle.verse_contexts.specs.Scopes.{Branched}
use Rattle.verse_contexts.proofs.Walkings.{one_entry}
use Rattle.verse_contexts.proofs.Branches.{scope_in, scope_part}
use Rattle.verse_contexts.proofs.scope.down_scope.Goals as goal

pub returns-in-0 : goal.returns-in-0
returns-in-0 c = λ u h s.
    let hd = c.in_ok-c.ensures in
    let k = c.is_scope.ensures.0 c.if-is_scope.true in
    let p = scope_part hd h s k.0 k.1 in
    let i = c.args.inner.now in
    let rest = take (length i - 1) (drop 1 i) in
    let z : get_or i 0 0 ≡ 0 = omega arith in
    scope_in i u p.0 c.args.expression.at rest (one_entry i c.in-0.len_at_least ∙ ap (λ j. j ∷ rest) z) p.1 c.down_choices.result (subst (λ j. Branched SC rest p.0 j c.down_choices.result) hd.2.start (c.down_choices.ensures p.0 p.2 p.3))
