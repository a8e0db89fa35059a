use Rattle.std.proofs.Common.{rules}
use borrow.Author.Tests.{tests}
use Rattle.std.proofs.lemmas.Iterator.{YieldsList-from_slice}
use Rattle.std.proofs.lemmas.Iterator.Search.{all_from_yields_List}
use Rattle.lets.specs.Lightness.{light_cell}
use Rattle.lets.proofs.Lights.{light_asked}
use Rattle.lets.proofs.light.is_light.Goals as goal

pub returns : goal.returns
returns c = light_asked _ _ (all_from_yields_List light_cell _ _ _ c.all.ensures.ran (YieldsList-from_slice c.args.cells.now cc) (λ x b q k. search (rules, tests)))
