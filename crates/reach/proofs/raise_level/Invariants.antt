-- The loop's invariant: what the lists passed name that are deeper than d is up where they are up.
use Rattle.reach.proofs.Rounds.{Passed}
use Rattle.reach.proofs.raise_level.Given as goal

abbrev pub invariant-loop-l : goal.invariant-loop-l
invariant-loop-l l = Passed l.d l.l l.t.words l.flags
