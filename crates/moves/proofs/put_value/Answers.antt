use Rattle.std.proofs.Common.{rules, ◌≡◌, Some, subst}
use Rattle.moves.specs.Images.{puts}
use Rattle.moves.specs.Moved.{OneTerm}
use Rattle.moves.proofs.Calls.{shows_value, moved_with}
use Rattle.moves.proofs.put_value.Goals as goal

pub substitute-requires : goal.substitute-requires
substitute-requires c =
    let f : c.one_term-2.result ≡ Some c.in_ok-_value._value = search rules in
    let (v, is, a) = subst (OneTerm c.args.value.now) f c.one_term-2.ensures in
    (puts c.args.how v, shows_value c.args.how c.args.value.now v is c.requires)

pub returns : goal.returns
returns c =
    let e : c.one_term.result ≡ Some c.in_ok-term.term = search rules in
    let f : c.one_term-2.result ≡ Some c.in_ok-_value._value = search rules in
    let (t, it, a) = subst (OneTerm c.args.cells.now) e c.one_term.ensures in
    let (v, is, b) = subst (OneTerm c.args.value.now) f c.one_term-2.ensures in
    moved_with c.args.how c.args.cells.now c.args.value.now c.args.space.now _ c.substitute.result c.ok_or-3.ensures.value it is (c.substitute.ensures t (puts c.args.how v) a (shows_value c.args.how c.args.value.now v is c.requires))
