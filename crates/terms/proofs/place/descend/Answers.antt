use Rattle.std.proofs.Common.{rules, ◌≡◌, Ok, Err, arith}
use Rattle.std.specs.Result.{MatchResult}
use Rattle.terms.specs.declared.place.Astray.TheVariants.{Entry}
use Rattle.terms.proofs.Ways.{tree_ends, ends_tree, tree_stands, descended}
use Rattle.terms.proofs.place.descend.Goals as goal

pub returns-in_default : goal.returns-in_default
returns-in_default c = λ t is. let e = ends_tree _ _ t c.in-Some.ensures is in omega arith

pub returns-in_default-2 : goal.returns-in_default-2
returns-in_default-2 c = λ t is. c.in_default.ensures t (tree_stands _ t is)

pub returns-in-Some : goal.returns-in-Some
returns-in-Some c =
    let t = tree_ends _ _ c.in-Some.ensures (omega arith) in
    let m : MatchResult c.down.result (λ x. c.map_err.result ≡ Ok x) (λ e. c.map_err.result ≡ Err (Entry e)) = search rules in
    descended _ _ c.down.result _ m (c.down.ensures t.0 t.1)
