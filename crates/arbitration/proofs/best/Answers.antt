-- `arbitration::best` meets its contract. Assumes nothing.
use Rattle.std.proofs.Common.{arith}
use Rattle.arbitration.proofs.Picking.{best-more}
use Rattle.arbitration.proofs.best.Goals as goal

pub loop-k-preserved : goal.loop-k-preserved
loop-k-preserved c =
    rw c.better-best.ensures
    (best-more _ _ _ _ c.loop-k.invariant (omega (arith, c.loop-k-test.true, c.lists-lists.ensures.value)))
