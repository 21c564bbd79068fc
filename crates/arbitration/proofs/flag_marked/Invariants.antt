-- `arbitration::flag_marked` meets its contract. The loop's invariant: the flags of the ports passed are right, the others are down. Assumes nothing.
use Rattle.arbitration.proofs.Marks.{MarkedBefore}
use Rattle.arbitration.proofs.flag_marked.Given as goal

abbrev pub invariant-loop-p : goal.invariant-loop-p
invariant-loop-p l = MarkedBefore l.p l.t.words l.s l.flags
