-- All is in order for the next event, and the first i are taken.
use Rattle.std.proofs.Common.{◌≡◌, length, take}
use Rattle.text.specs.Words.{words_of}
use Rattle.show.specs.Kept.{Going, Leaves}
use Rattle.show.proofs.Watch.watch_block.Given as goal

abbrev pub invariant-loop-i : goal.invariant-loop-i
invariant-loop-i l = record {
  state_long : length l.s ≡ length l.initial.s;
  trace_long : length l.trace ≡ length l.initial.trace;
  found_long : length l.found ≡ length l.initial.found;
  out_long : length l.out ≡ length l.initial.out;
  going : Going l.self.operator l.self.table.words l.s l.trace l.seen l.found l.out;
  so_far : Leaves l.self.table.words l.initial.s (take l.initial.seen.count l.initial.trace) (take l.i (words_of l.block))
      l.s l.trace l.seen.count;
}
