-- What a run gives from the block at hand it gives from the first one.
use Rattle.std.proofs.Common.{◌≡◌, ℕ, Bool, List, length, take}
use Rattle.files.specs.Counts.{IsPrefixLen}
use Rattle.text.specs.Words.{words_of}
use Rattle.session.specs.Promises.{Ready}
use Rattle.run.specs.Kept.{Ran}
use Rattle.run.proofs.Run.run.Given as goal

abbrev pub invariant-loop : goal.invariant-loop
invariant-loop l = record {
  state_long : length l.s ≡ length l.initial.s;
  trace_long : length l.trace ≡ length l.initial.trace;
  block_long : length l.block ≡ length l.initial.block;
  room : 262144 ≡ length l.out;
  bytes : IsPrefixLen l.n l.block;
  ready : Ready l.self.table.now l.s l.trace;
  so_far : (whole : Bool) (s' : List ℕ) → Ran l.self.table.now l.s (words_of (take l.n l.block)) whole s'
      → Ran l.self.table.now l.initial.s (words_of (take l.first l.initial.block)) whole s';
}
