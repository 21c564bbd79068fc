-- The loop's invariant: d rounds have found the lists that are at most d deep.
use Rattle.nesting.specs.Depths.{Depths}
use Rattle.nesting.proofs.find_depths.Given as goal

abbrev pub invariant-loop-d : goal.invariant-loop-d
invariant-loop-d l = Depths l.d l.t.words l.depths
