-- `lists::act` meets its contract: a run of one word. Assumes nothing.
use mathlib.Core.Path.{◌∙◌}
use Rattle.lists.proofs.Items.{one-ran, act-word, act-outcomes, act-visits, act-state}
use Rattle.lists.proofs.act.Goals as goal

pub returns : goal.returns
returns c =
    let item = c.item-item.ensures in
    rw c.one_word.ensures
    (one-ran _ _ _ _ _ _ _ _ (act-word _ _ _ item _ _ _ _ c.trace_word.ensures) c.requires
    (c.effect.ensures ∙ act-state _ c.args.o _ _ _) c.put.ensures
    (act-outcomes _ _ _ item c.args.o c.args.outcomes.now c.read_by.result _ c.read_by.ensures)
    c.read_by.ensures.inside
    (act-visits _ c.args.o _ _ _))
