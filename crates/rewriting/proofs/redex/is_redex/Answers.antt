use Rattle.rewriting.proofs.Askings.{judged_term, redex_of, redex_small}
use Rattle.rewriting.proofs.redex.is_redex.Goals as goal

pub returns-then-is_ok : goal.returns-then-is_ok
returns-then-is_ok c = (
  λ e. redex_of _ (judged_term _ _ c.judge.ensures c.if-is_ok.ensures.value) (c.has_small_variables.ensures.0 e),
  λ d. c.has_small_variables.ensures.1 (redex_small _ d),
)
