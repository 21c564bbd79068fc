-- `manager::play_on` meets its promise. The loop's invariant: what `Along` says of the first events. Assumes nothing.
use Rattle.manager.proofs.Playing.{Along}
use Rattle.manager.proofs.play_on.Given as goal

abbrev pub invariant-loop-taken : goal.invariant-loop-taken
invariant-loop-taken l = Along l.t.words l.es l.initial.s l.initial.trace l.s l.trace l.taken l.count l.visits
