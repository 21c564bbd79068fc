-- `nesting::item_nests` meets its contract: each exit by the law of its kind. Assumes nothing.
use mathlib.Core.Path.{◌∙◌}
use Rattle.rulebook.specs.Reasons.{item_nests}
use Rattle.words.proofs.Items.{read-list, read-rule, read-other}
use Rattle.nesting.proofs.item_nests.Goals as goal

pub returns-then-item-eq-ITEM_LIST : goal.returns-then-item-eq-ITEM_LIST
unfolding item_nests
returns-then-item-eq-ITEM_LIST c = c.found.ensures ∙ read-list _ _ _ c.item-item.ensures _ _ _ c.if-item-eq-ITEM_LIST.true

pub returns-then-item-eq-ITEM_RULE : goal.returns-then-item-eq-ITEM_RULE
unfolding item_nests
returns-then-item-eq-ITEM_RULE c =
    c.rule_nests.ensures
    ∙ read-rule _ _ _ c.item-item.ensures _ _ _ c.if-item-eq-ITEM_LIST.false c.if-item-eq-ITEM_RULE.true

pub returns : goal.returns
unfolding item_nests
returns c = read-other _ _ _ c.item-item.ensures _ _ _ c.if-item-eq-ITEM_LIST.false c.if-item-eq-ITEM_RULE.false
