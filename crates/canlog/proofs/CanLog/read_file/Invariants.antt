-- The log's bytes that are read next are inside the window.
use Rattle.std.proofs.Common.{◌≡◌, ◌≤◌, length}
use Rattle.canlog.proofs.CanLog.read_file.Given as goal

abbrev pub invariant-loop : goal.invariant-loop
invariant-loop l = record {
  window_long : length l.window ≡ length l.initial.window;
  out_long : length l.out ≡ length l.initial.out;
  raw_long : length l.raw ≡ length l.initial.raw;
  within : l.place.end ≤ length l.window;
}
