-- Behind each call the state is that of the words before the next one's.
use Rattle.std.proofs.Common.{◌≡◌, ◌-◌, length, take}
use Rattle.text.specs.Words.{words_of}
use Rattle.session.specs.Printed.{state_after}
use Rattle.session.specs.Promises.{Ready}
use Rattle.run.proofs.Run.run_block.Given as goal

abbrev pub invariant-loop-from : goal.invariant-loop-from
invariant-loop-from l = record {
  state_long : length l.s ≡ length l.initial.s;
  trace_long : length l.trace ≡ length l.initial.trace;
  room : length l.out ≡ length l.initial.out;
  ready : Ready l.self.table.now l.s l.trace;
  so_far : l.s ≡ state_after l.self.table.now l.initial.s (take l.from (words_of l.block));
}

abbrev pub decreases-loop-from : goal.decreases-loop-from
decreases-loop-from l = l.total - l.from
