-- `lists::judge` meets its contract: a run of one word. Assumes nothing.
use Rattle.std.proofs.Common.{arith}
use Rattle.lists.proofs.Items.{one-ran, judge-chooses, judge-word, judge-state, judge-outcomes, judge-visits}
use Rattle.lists.proofs.judge.Goals as goal

pub returns-clause-list_value : goal.returns-clause-list_value
returns-clause-list_value c =
    judge-chooses _ _ c.args.o _ _ c.result-found.ensures.result _ _ c.result_in-before.ensures c.choice-list.ensures.value

pub returns-clause-ran : goal.returns-clause-ran
returns-clause-ran c =
    one-ran _ _ _ _ _ _ _ _ (judge-word _ _ _ _ _ c.result-found.ensures.result _ c.trace_word.ensures) c.requires
    (judge-state _ _ c.args.o _ _ c.result-found.ensures.result _ c.set_result.ensures) c.put.ensures (judge-outcomes _ _ c.args.o _) (omega arith)
    (judge-visits _ _ c.args.o _ _ c.result-found.ensures.visits)
