-- `evaluation::result` meets its contract: the evaluation of its expression. Assumes nothing.
use Rattle.rulebook.specs.Lists.{result_in, visits_in}
use Rattle.evaluation.proofs.Word.{result-told, visits-told}
use Rattle.evaluation.proofs.result.Goals as goal

pub returns : goal.returns
unfolding result_in visits_in
returns c = record {
  result = rw (← c.rule.ensures.expression.value) (result-told _ _ _ _ _ c.holds-found.ensures);
  visits = rw (← c.rule.ensures.expression.value) (visits-told _ _ _ _ _ c.holds-found.ensures);
}
