-- `buslog::reading::read_lines` meets its contract. The loop's invariant: `ReadTo`. The measure is what is left of the log. Assumes nothing.
use Prim.Native.Nat.{◌-◌}
use lib.ListN.{length}
use Rattle.buslog.specs.Promises.{cursor_as}
use Rattle.buslog.proofs.Taking.{ReadTo}
use Rattle.buslog.proofs.reading.read_lines.Given as goal

abbrev pub invariant-loop-at : goal.invariant-loop-at
invariant-loop-at l = ReadTo l.t.words l.names l.log (cursor_as l.initial.c) l.initial.out (cursor_as l.c) l.out l.n l.at

abbrev pub decreases-loop-at : goal.decreases-loop-at
decreases-loop-at l = length l.log - l.at
