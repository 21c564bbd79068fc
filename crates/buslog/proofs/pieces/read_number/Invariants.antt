-- `buslog::pieces::read_number` meets its contract. The loop's invariant: `ToldTo`. Assumes nothing.
use Rattle.buslog.proofs.Worth.{ToldTo}
use Rattle.buslog.proofs.pieces.read_number.Given as goal

abbrev pub invariant-loop-b : goal.invariant-loop-b
invariant-loop-b l = ToldTo l.digits l.base l.start l.n l.b-index
