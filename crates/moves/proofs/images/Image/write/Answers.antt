use Rattle.std.proofs.Common.{subst}
use Rattle.moves.specs.Images.{Shown}
use Rattle.moves.proofs.Scopes.{fits}
use Rattle.moves.proofs.Calls.{term_stands}
use Rattle.moves.proofs.images.Image.write.Goals as goal

pub rename-requires-clause-room : goal.rename-requires-clause-room
rename-requires-clause-room c =
    let (t, is, l) = c.requires.shown in
    fits (term_stands (subst (λ i. Shown i t) c.in-Tree.is is)) l

pub returns-in-Tree : goal.returns-in-Tree
returns-in-Tree c = λ t is. c.rename.ensures t (term_stands (subst (λ i. Shown i t) c.in-Tree.is is))
