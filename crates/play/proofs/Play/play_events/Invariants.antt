-- The parts so far are one play of the events taken.
use Rattle.std.proofs.Common.{◌≡◌, ◌-◌, ◌≤◌, length, take}
use Rattle.play.specs.Kept.{Ready, Told}
use Rattle.play.proofs.Play.play_events.Given as goal

abbrev pub invariant-loop-part : goal.invariant-loop-part
invariant-loop-part l = record {
  state_long : length l.s ≡ length l.initial.s;
  trace_long : length l.trace ≡ length l.initial.trace;
  room : length l.out ≡ length l.initial.out;
  within : l.taken ≤ length l.es;
  ready : Ready l.self.table.now l.s l.trace l.out;
  so_far : Told l.self.table.now l.initial.s (take l.taken l.es) l.taken l.visits 0 l.s;
}

abbrev pub decreases-loop-part : goal.decreases-loop-part
decreases-loop-part l = length l.es - l.taken
