-- The first k words are the same in both (`Along`).
use Rattle.hold.proofs.Along.{Along}
use Rattle.hold.proofs.parting.Given as goal

abbrev pub invariant-loop-k : goal.invariant-loop-k
invariant-loop-k l = Along l.ours l.theirs l.k
