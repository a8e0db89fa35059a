use Rattle.rewriting.specs.Programs.{program}
use Rattle.rewriting.proofs.Askings.{judged_term, spelled_tree, site_asked}
use Rattle.rewriting.proofs.LetRewritingCalculus.site.Goals as goal

pub returns-then-is_ok : goal.returns-then-is_ok
returns-then-is_ok c =
    let s = judged_term _ _ c.judge.ensures c.if-is_ok.ensures.value in
    site_asked (program c.args.self.now) _ _ c.down.result _ c.is_ok-then-is_ok.ensures.value s (c.down.ensures s.row (spelled_tree s.row s.lawful s.reads))
