-- `buslog::interfaces::stand` meets its contract. The loop's invariant: `StandTo`. Assumes nothing.
use Rattle.buslog.proofs.Called.{StandTo}
use Rattle.buslog.proofs.interfaces.stand.Given as goal

abbrev pub invariant-loop-left : goal.invariant-loop-left
invariant-loop-left l = StandTo l.names l.k l.p l.left
