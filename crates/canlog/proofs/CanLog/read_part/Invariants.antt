-- What reading on from where it stands comes to, reading the part comes to.
use Rattle.std.proofs.Common.{◌≡◌, ◌≤◌, length, drop}
use Rattle.rulebook.specs.BusLog.{Cursor}
use Rattle.buslog.specs.Promises.{cursor_as}
use Rattle.canlog.specs.Kept.{ReadOn}
use Rattle.canlog.proofs.CanLog.read_part.Given as goal

abbrev pub invariant-loop : goal.invariant-loop
invariant-loop l = record {
  out_long : length l.out ≡ length l.initial.out;
  raw_long : length l.raw ≡ length l.initial.raw;
  within : l.at ≤ length l.log;
  so_far : (c' : Cursor) → ReadOn l.self.table.now l.self.names.now (drop l.at l.log) (cursor_as l.cursor) c'
      → ReadOn l.self.table.now l.self.names.now l.log (cursor_as l.initial.cursor) c';
}
