-- `cost::rule_cost` meets its contract: the fields read are the rulebook's. Assumes nothing.
use Rattle.std.proofs.Common.{arith}
use Rattle.rulebook.specs.Reasons.{rule_cost}
use Rattle.cost.proofs.rule_cost.Goals as goal

pub returns : goal.returns
unfolding rule_cost
returns c =
    let rule = c.rule-rule.ensures in
    let on-true = c.chosen_cost-on_true.ensures in
    let on-false = c.chosen_cost-on_false.ensures in
    record {
      value = rw (c.max.ensures, on-true.value, on-false.value, rule.true-list.value, rule.false-list.value);
      small = omega (arith, c.max.ensures, on-true.small, on-false.small);
    }
