-- `owners::item_owned` meets its contract: each exit by the law of its kind. Assumes nothing.
use Rattle.owners.proofs.Judged.{call-owned, list-owned, rule-owned, other-owned}
use Rattle.owners.proofs.item_owned.Goals as goal

pub returns-then-kind-eq-ITEM_CALL : goal.returns-then-kind-eq-ITEM_CALL
returns-then-kind-eq-ITEM_CALL c = call-owned _ _ _ _ c.item-item.ensures c.if-kind-eq-ITEM_CALL.true

pub returns-then-kind-eq-ITEM_LIST : goal.returns-then-kind-eq-ITEM_LIST
returns-then-kind-eq-ITEM_LIST c = list-owned _ _ _ _ c.item-item.ensures _ c.list.ensures c.if-kind-eq-ITEM_LIST.true

pub returns-then-kind-eq-ITEM_RULE : goal.returns-then-kind-eq-ITEM_RULE
returns-then-kind-eq-ITEM_RULE c = rule-owned _ _ _ _ c.item-item.ensures _ c.rule.ensures c.if-kind-eq-ITEM_RULE.true

pub returns : goal.returns
returns c =
    other-owned _ _ _ _ c.item-item.ensures _ _ c.port-port_owner.ensures c.network-network_owner.ensures c.if-kind-eq-ITEM_LIST.false
    c.if-kind-eq-ITEM_RULE.false
