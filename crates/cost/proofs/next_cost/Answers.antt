-- `cost::next_cost` meets its contract: each exit by its law. Assumes nothing.
use Rattle.cost.proofs.Capped.{cost-new, cost-kept}
use Rattle.cost.proofs.next_cost.Goals as goal

pub returns-then-depth-d : goal.returns-then-depth-d
returns-then-depth-d c = cost-new _ _ _ _ _ _ c.word-depth.ensures _ c.if-depth-d.true c.list_cost.ensures

pub returns : goal.returns
returns c = cost-kept _ _ _ _ _ _ c.word-depth.ensures _ c.if-depth-d.false c.word.ensures
