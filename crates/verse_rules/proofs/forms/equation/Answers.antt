use Rattle.std.proofs.Common.{Ok, refl, ap, ◌∙◌}
use Rattle.verse.specs.Syntax.{seq, eqn}
use Rattle.verse_rules.specs.Reads.{Three}
use Rattle.verse_rules.proofs.Lawfuls.{erred, equated}
use Rattle.verse_rules.proofs.forms.equation.Goals as goal

pub returns-in_err-q : goal.returns-in_err-q
returns-in_err-q c = λ s t h.
    let n = c.in_err-q.ensures s t h in
    erred (Three t) _ _ c.from_residual.ensures.1 n.0 (refl, λ a b e. n.1 (eqn a b) e)

pub returns : goal.returns
returns c = λ s t h.
    let p = c.in_ok-q.ensures s t h in
    let w = equated p.0 _ c.two.result (Ok (c.in_ok-a.a, c.in_ok-a.b)) p.3 (c.two.ensures p.0 p.3.is) c.in_ok-a.ensures.value in
    (w.0, w.1, p.1, p.2 ∙ ap (λ y. seq y p.1) w.2, w.3, w.4, p.4)
