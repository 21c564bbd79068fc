-- `session::take_events` meets its promise. The loop's invariant: what `Along` says of the first i events. The measure is how many are
-- left. Assumes nothing.
use lib.ListN.{length}
use Rattle.session.specs.Promises.{offered}
use Rattle.session.proofs.Along.{Along}
use Rattle.session.proofs.take_events.Given as goal

abbrev pub invariant-loop-i : goal.invariant-loop-i
invariant-loop-i l = Along l.t l.initial.s l.initial.trace (offered l.t l.initial.s (length l.initial.trace) l.bytes l.from) l.initial.out l.i l.at l.s l.trace l.out
