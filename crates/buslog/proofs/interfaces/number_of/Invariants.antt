-- `buslog::interfaces::number_of` meets its contract. The loop's invariant: `SoughtTo`. Assumes nothing.
use Rattle.buslog.proofs.Called.{SoughtTo}
use Rattle.buslog.proofs.interfaces.number_of.Given as goal

abbrev pub invariant-loop-i : goal.invariant-loop-i
invariant-loop-i l = SoughtTo l.name l.names l.k l.p l.i
