-- `cost::list_cost` meets its contract. Assumes nothing.
use Rattle.std.proofs.Common.{arith, sym, ap, ◌∙◌}
use Rattle.rulebook.specs.Reasons.{item_cost}
use Rattle.walks.proofs.Walks.{whole}
use Rattle.cost.specs.Costs.{capped, cost_in}
use Rattle.cost.proofs.Capped.{absent-free, list-costs, cost-turn, cost-end}
use Rattle.cost.proofs.list_cost.Goals as goal

pub returns-then-lists-l : goal.returns-then-lists-l
returns-then-lists-l c = ap capped (absent-free _ (cost_in c.args.below.now) _ (omega (arith, c.lists.ensures.value, c.if-lists-l.true)))

pub loop-i-init : goal.loop-i-init
loop-i-init c =
    let list = c.list-list.ensures in
    let there = list-costs c.args.t.now.words (cost_in c.args.below.now) c.args.l (omega (arith, c.lists.ensures.value, c.if-lists-l.false)) in
    (omega arith, ap capped (rw (whole c.list-list.result.first_item c.list-list.result.item_count) (rw (← list.first-item.value, ← list.item_count.value) at there)))

pub loop-i-preserved : goal.loop-i-preserved
loop-i-preserved c = (
  omega (arith, c.cap-total.ensures),
  c.loop-i.invariant.1
      ∙ cost-turn (item_cost c.args.t.now.words (cost_in c.args.below.now)) _ _ _ _ _ c.loop-i-test.true (ap capped c.item_cost.ensures.value)
      c.cap-total.ensures,
)

pub returns : goal.returns
returns c = sym (c.loop-i.invariant.1 ∙ cost-end _ _ _ _ c.loop-i-test.false c.loop-i.invariant.0)
