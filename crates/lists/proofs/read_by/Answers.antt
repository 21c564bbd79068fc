-- `lists::read_by` meets its contract: a call reads the next outcome, no other item any. Assumes nothing.
use Rattle.lists.proofs.Items.{reads-next, reads_none}
use Rattle.lists.proofs.read_by.Goals as goal

pub returns-then-kind-eq-ITEM_CALL : goal.returns-then-kind-eq-ITEM_CALL
returns-then-kind-eq-ITEM_CALL c = reads-next _ _ _ c.if-kind-eq-ITEM_CALL.true c.min.ensures

pub returns-else-kind-eq-ITEM_CALL : goal.returns-else-kind-eq-ITEM_CALL
returns-else-kind-eq-ITEM_CALL c = reads_none _ _ c.if-kind-eq-ITEM_CALL.false
