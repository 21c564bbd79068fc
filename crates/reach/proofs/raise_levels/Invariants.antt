-- The loop's invariant: the rounds of all depths above d are done.
use Rattle.std.proofs.Common.{◌≤◌}
use Rattle.reach.specs.Raised.{Closed}
use Rattle.reach.proofs.raise_levels.Given as goal

abbrev pub invariant-loop-d : goal.invariant-loop-d
invariant-loop-d l = record { some : 1 ≤ l.d; closed : Closed l.d l.t.words l.flags }
