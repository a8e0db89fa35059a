use Rattle.std.proofs.Common.{rules, true, false}
use borrow.Author.Tests.{tests}
use Rattle.std.proofs.lemmas.Iterator.{YieldsList-from_slice, cases_from_all}
use Rattle.lets.specs.Lightness.{LightAsked}
use Rattle.rewriting.proofs.SideBySide.{bindings_light}
use Rattle.rewriting.proofs.matching.are_light.Goals as goal

pub returns : goal.returns
returns c =
    bindings_light _ _ (cases_from_all _ _ _ (λ v. LightAsked v.now true) (λ v. LightAsked v.now false) c.all.ensures.ran (YieldsList-from_slice c.args.values.now cc) (λ x q k. search (rules, tests)) (λ x q k. search (rules, tests)))
