-- `cost::item_cost` meets its contract: each exit by the law of its kind. Assumes nothing.
use Rattle.std.proofs.Common.{arith, ◌∙◌}
use Rattle.rulebook.specs.Reasons.{item_cost}
use Rattle.words.proofs.Items.{read-list, read-rule, read-other}
use Rattle.cost.proofs.item_cost.Goals as goal

pub returns-then-item-eq-ITEM_LIST : goal.returns-then-item-eq-ITEM_LIST
unfolding item_cost
returns-then-item-eq-ITEM_LIST c =
    record {
      value = c.cost_in.ensures.value ∙ read-list _ _ _ c.item-item.ensures _ _ _ c.if-item-eq-ITEM_LIST.true;
      small = omega (arith, c.cost_in.ensures.small);
    }

pub returns-then-item-eq-ITEM_RULE : goal.returns-then-item-eq-ITEM_RULE
unfolding item_cost
returns-then-item-eq-ITEM_RULE c =
    record {
      value = c.rule_cost.ensures.value ∙ read-rule _ _ _ c.item-item.ensures _ _ _ c.if-item-eq-ITEM_LIST.false c.if-item-eq-ITEM_RULE.true;
      small = c.rule_cost.ensures.small;
    }

pub returns : goal.returns
unfolding item_cost
returns c =
    record {
      value = read-other _ _ _ c.item-item.ensures _ _ _ c.if-item-eq-ITEM_LIST.false c.if-item-eq-ITEM_RULE.false;
      small = omega arith;
    }
