use Rattle.std.proofs.Common.{subst}
use Rattle.std.specs.Prelude.{IfSome}
use Rattle.script.specs.Script.{HasSizes}
use Rattle.script.proofs.Sizes.{further_sized}
use Rattle.script.proofs.read_words.Goals as goal

pub returns-in_ok-go_on-in-Some : goal.returns-in_ok-go_on-in-Some
returns-in_ok-go_on-in-Some c h =
    further_sized _ _ c.go_on.new.self c.in_ok-go_on-in-Some.ensures (subst (λ s. IfSome s HasSizes) c.in-Some.is h)
