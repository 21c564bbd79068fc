-- `cost::bound` meets its contract. Assumes nothing.
use Rattle.std.proofs.Common.{◌<◌, arith, sym, ◌∙◌}
use Rattle.rulebook.specs.Table as Table
use Rattle.rulebook.specs.Reasons as Reasons
use Rattle.cost.proofs.Capped.{no-round, bound-start, cost-is, cost-turn, cost-end}
use Rattle.cost.proofs.bound.Goals as goal

pub find_costs-requires : goal.find_costs-requires
find_costs-requires c = record { searched = c.requires.searched; found = no-round c.args.t.now.words }

pub loop-l-init : goal.loop-l-init
loop-l-init c = (omega arith, bound-start c.args.t.now.words)

pub loop-l-preserved : goal.loop-l-preserved
loop-l-preserved c =
    let there : c.loop-l.l < Table.lists c.args.t.now.words = omega (arith, c.loop-l-test.true, c.lists-l-end.ensures.value) in
    let is = cost-is _ _ c.find_costs.ensures c.requires.nested _ _ there c.cost_in.ensures.value in (
      omega (arith, c.cap-total.ensures),
      c.loop-l.invariant.1 ∙ cost-turn (Reasons.cost_within 7 c.args.t.now.words) _ _ _ _ _ there is c.cap-total.ensures,
    )

pub returns : goal.returns
returns c =
    sym (c.loop-l.invariant.1 ∙ cost-end _ _ _ _ (omega (arith, c.loop-l-test.false, c.lists-l-end.ensures.value)) c.loop-l.invariant.0)
