-- `arbitration::best` meets its contract. The loop's invariant: the list is the best of those passed. Assumes nothing.
use Rattle.arbitration.specs.Picking.{Best}
use Rattle.arbitration.proofs.best.Given as goal

abbrev pub invariant-loop-k : goal.invariant-loop-k
invariant-loop-k l = Best l.t.words l.flags l.k l.best
