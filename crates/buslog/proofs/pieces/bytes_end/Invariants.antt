-- `buslog::pieces::bytes_end` meets its contract. The loop's invariant: `RunsTo`. Assumes nothing.
use Rattle.buslog.specs.Pieces.{piece_of}
use Rattle.buslog.proofs.Runs.{RunsTo}
use Rattle.buslog.proofs.pieces.bytes_end.Given as goal

abbrev pub invariant-loop-end : goal.invariant-loop-end
invariant-loop-end l = RunsTo (piece_of l.p).has l.text l.at l.end
