-- All is in order for the next event.
use Rattle.std.proofs.Common.{◌≡◌, length}
use Rattle.text.specs.Window.{Within}
use Rattle.audit.specs.Kept.{Going}
use Rattle.audit.proofs.Audit.hold_block.Given as goal

abbrev pub invariant-loop-i : goal.invariant-loop-i
invariant-loop-i l = record {
  state_long : length l.s ≡ length l.initial.s;
  trace_long : length l.trace ≡ length l.initial.trace;
  window_long : length l.window ≡ length l.initial.window;
  words_long : 8192 ≡ length l.words;
  out_long : 262144 ≡ length l.out;
  going : Going l.self.table.words l.s l.trace;
  ahead : Within l.day.place.at l.day.place.end l.window;
}
