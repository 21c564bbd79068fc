-- `owners::rule_owned` meets its contract: the fields read are the rulebook's. Assumes nothing.
use Rattle.std.proofs.Common.{rules}
use borrow.Author.Tests.{tests}
use Rattle.rulebook.specs.Reasons.{strangers_port, rule_owned, owners}
use Rattle.owners.proofs.rule_owned.Goals as goal

pub returns : goal.returns
unfolding owners rule_owned
returns c =
    let rule = c.rule-rule.ensures in
    rw (
      c.mentions_where-strange.ensures (strangers_port c.args.t.now.words c.rule-rule.result.owner) (record { says = λ p y k. search (rules, tests) }),
      c.list-true_owner.ensures.owner.value,
      c.list-false_owner.ensures.owner.value,
      rule.true-list.value,
      rule.false-list.value,
      rule.expression.value,
      rule.owner.value,
    )
