-- What a play gives from the block at hand, it gives behind the events taken from the first block on.
use Rattle.std.proofs.Common.{◌≡◌, ℕ, ◌+◌, ◌*◌, ◌≤◌, Bool, List, length, take}
use Rattle.text.specs.Words.{words_of}
use Rattle.day.specs.Printed.{in64}
use Rattle.play.specs.Kept.{Loaded, Ready, Ran}
use Rattle.play.proofs.Play.play_file.Given as goal

abbrev pub invariant-loop : goal.invariant-loop
invariant-loop l = record {
  state_long : length l.s ≡ length l.initial.s;
  trace_long : length l.trace ≡ length l.initial.trace;
  block_long : length l.block ≡ length l.initial.block;
  room : length l.out ≡ length l.initial.out;
  loaded : Loaded l.n l.block;
  ready : Ready l.self.table.now l.s l.trace l.out;
  few : l.day.taken ≤ 16384 * l.counter;
  so_far : (over : Bool) (m v k : ℕ) (s' : List ℕ) → Ran l.self.table.now l.s (words_of (take l.n l.block)) over m v k s'
      → Ran l.self.table.now l.initial.s (words_of (take l.first l.initial.block)) over (l.day.taken + m) (in64 (l.day.visits + v)) k s';
  visits : in64 l.day.visits ≡ l.day.visits;
  unended : l.day.number ≡ 0;
}
