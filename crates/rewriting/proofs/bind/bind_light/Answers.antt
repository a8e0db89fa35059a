use Rattle.std.proofs.Common.{◌≡◌, ℕ, true, false, sym, refl, ap, subst, arith}
use Rattle.terms.specs.Rows.{instead, instantiate}
use Rattle.terms.specs.Rows.Row.{none}
use Rattle.moves.specs.Images.{Shows}
use Rattle.moves.proofs.Calls.{shows_instead}
use Rattle.lets.specs.Syntax.{light}
use Rattle.lets.specs.Figure.{bind}
use Rattle.rewriting.proofs.Askings.{spelled_tree}
use Rattle.rewriting.proofs.LetParts.{let_same}
use Rattle.rewriting.proofs.Redexes.{spelling}
use Rattle.rewriting.proofs.Steps.{put_row}
use Rattle.rewriting.proofs.bind.bind_light.Goals as goal

pub returns-then-not-is_light : goal.returns-then-not-is_light
returns-then-not-is_light c = λ t h e.
    let p = c.in_ok-parts.ensures t (h, e) in
    let q : false ≡ light p.0.a = c.if-not-is_light.ensures 1 p.0.a p.0.letters.0 p.1 in (
      refl,
      (
        p.0,
        λ l yes.
            let same = ap light (let_same p.0 l).0 in
            let z : ◌≡◌ {A = ℕ} 0 1 = cc (q, same, yes) in
            omega arith,
      ),
    )

pub substitute-requires : goal.substitute-requires
substitute-requires c =
    let s = spelling c.args.redex.lawful in
    let p = c.in_ok-parts.ensures s.row (s.lawful, s.reads) in
    (instead p.0.a, subst (λ how. Shows how (instead p.0.a)) (sym c.instead.ensures) (shows_instead _ p.0.a (spelled_tree p.0.a p.0.letters.0 p.1)))

pub returns : goal.returns
returns c = λ t h e.
    let p = c.in_ok-parts.ensures t (h, e) in
    let sh = subst (λ how. Shows how (instead p.0.a)) (sym c.instead.ensures) (shows_instead _ p.0.a (spelled_tree p.0.a p.0.letters.0 p.1)) in
    let q : true ≡ light p.0.a = c.if-not-is_light.ensures 1 p.0.a p.0.letters.0 p.1 in
    put_row (bind none 0 t) _ _ (instantiate p.0.a p.0.e) (p.0, sym q, tt, refl) _ c.ok_or.ensures.value (c.substitute.ensures p.0.e (instead p.0.a) (c.trees.ensures p.0.e (p.0.letters.1, p.2)) sh)
