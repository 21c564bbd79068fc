-- `reach::raise_item` meets its contract: each exit by the law of its kind. Assumes nothing.
use Rattle.reach.proofs.Raised.{item-up-list, item-up-rule, item-up-none}
use Rattle.reach.proofs.raise_item.Goals as goal

pub returns-then-item-eq-ITEM_LIST : goal.returns-then-item-eq-ITEM_LIST
returns-then-item-eq-ITEM_LIST c = item-up-list _ _ _ c.item-item.ensures _ _ c.requires c.if-item-eq-ITEM_LIST.true c.put.ensures

pub returns-then-item-eq-ITEM_RULE : goal.returns-then-item-eq-ITEM_RULE
returns-then-item-eq-ITEM_RULE c =
    item-up-rule _ _ _ c.item-item.ensures _ _ c.if-item-eq-ITEM_LIST.false c.if-item-eq-ITEM_RULE.true c.raise_rule.ensures

pub returns-else-item-eq-ITEM_RULE : goal.returns-else-item-eq-ITEM_RULE
returns-else-item-eq-ITEM_RULE c =
    item-up-none _ _ _ c.item-item.ensures _ c.requires c.if-item-eq-ITEM_LIST.false c.if-item-eq-ITEM_RULE.false
