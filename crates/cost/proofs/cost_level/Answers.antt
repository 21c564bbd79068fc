-- `cost::cost_level` meets its contract. Assumes nothing.
use Rattle.std.proofs.Common.{◌<◌, arith}
use Rattle.cost.proofs.Capped.{round-turn, round-ends}
use Rattle.cost.proofs.cost_level.Goals as goal

pub loop-l-preserved : goal.loop-l-preserved
loop-l-preserved c =
    let inside : c.loop-l.l < 256 = omega (arith, c.loop-l-test.true, c.lists-l-end.ensures.value, c.requires.costed.searched.few) in
    rw c.put.ensures (round-turn _ _ _ _ _ c.requires.shallow c.requires.costed.searched.found c.loop-l.invariant _ inside c.next_cost-cost.ensures)

pub returns : goal.returns
returns c = round-ends _ _ _ _ (omega (arith, c.loop-l-test.false, c.lists-l-end.ensures.value)) c.loop-l.invariant
