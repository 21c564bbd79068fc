-- What a run gives from the block at hand it gives from the first one.
use Rattle.std.proofs.Common.{◌≡◌, ℕ, ◌*◌, ◌≤◌, Bool, List, length, take}
use Rattle.text.specs.Words.{words_of}
use Rattle.visits.specs.declared.Most.{Most}
use Rattle.visits.specs.Printed.{nothing}
use Rattle.timing.specs.Kept.{Loaded, Going, Ran}
use Rattle.timing.proofs.Timing.time_file.Given as goal

abbrev pub invariant-loop : goal.invariant-loop
invariant-loop l = record {
  state_long : length l.s ≡ length l.initial.s;
  trace_long : length l.trace ≡ length l.initial.trace;
  block_long : length l.block ≡ length l.initial.block;
  room : length l.out ≡ length l.initial.out;
  loaded : Loaded l.n l.block;
  going : Going l.self.table.now l.s l.trace l.out;
  few : l.most.events ≤ 16384 * l.counter;
  so_far : (whole : Bool) (s' : List ℕ) (m' : Most) → Ran l.self.table.now l.s (words_of (take l.n l.block)) l.most whole s' m'
      → Ran l.self.table.now l.initial.s (words_of (take l.first l.initial.block)) nothing whole s' m';
}
