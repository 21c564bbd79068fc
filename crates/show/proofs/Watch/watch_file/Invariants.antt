-- What a run gives from the block at hand it gives from the first one.
use Rattle.std.proofs.Common.{◌≡◌, ℕ, Bool, List, length, take}
use Rattle.files.specs.Counts.{IsPrefixLen}
use Rattle.text.specs.Words.{words_of}
use Rattle.show.specs.Kept.{Going, Ran}
use Rattle.show.proofs.Watch.watch_file.Given as goal

abbrev pub invariant-loop : goal.invariant-loop
invariant-loop l = record {
  state_long : length l.s ≡ length l.initial.s;
  trace_long : length l.trace ≡ length l.initial.trace;
  block_long : length l.block ≡ length l.initial.block;
  found_long : length l.found ≡ length l.initial.found;
  out_long : length l.out ≡ length l.initial.out;
  bytes : IsPrefixLen l.n l.block;
  going : Going l.self.operator l.self.table.words l.s l.trace l.seen l.found l.out;
  so_far : (whole : Bool) (s' trace' : List ℕ) (m : ℕ)
      → Ran l.self.table.words l.s (take l.seen.count l.trace) (words_of (take l.n l.block)) whole s' trace' m
      → Ran l.self.table.words l.initial.s (take l.initial.seen.count l.initial.trace) (words_of (take l.first l.initial.block)) whole s' trace' m;
}
