-- Behind each block all is in order for the next.
use Rattle.std.proofs.Common.{◌≡◌, length}
use Rattle.files.specs.Counts.{IsPrefixLen}
use Rattle.text.specs.Window.{Within}
use Rattle.audit.specs.Kept.{Going}
use Rattle.audit.proofs.Audit.hold_file.Given as goal

abbrev pub invariant-loop : goal.invariant-loop
invariant-loop l = record {
  state_long : length l.s ≡ length l.initial.s;
  trace_long : length l.trace ≡ length l.initial.trace;
  block_long : length l.block ≡ length l.initial.block;
  window_long : length l.window ≡ length l.initial.window;
  bytes : IsPrefixLen l.n l.block;
  going : Going l.self.table.words l.s l.trace;
  ahead : Within l.day.place.at l.day.place.end l.window;
}
