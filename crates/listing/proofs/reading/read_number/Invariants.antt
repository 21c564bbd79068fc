-- `listing::reading::read_number` meets its contract. The loop's invariant: `Begun`. The measure is what is left of the text. Assumes nothing.
use Prim.Native.Nat.{◌-◌}
use lib.ListN.{length}
use Rattle.listing.proofs.Numbers.{Begun}
use Rattle.listing.proofs.reading.read_number.Given as goal

abbrev pub invariant-loop-d : goal.invariant-loop-d
invariant-loop-d l = Begun l.text l.at l.size l.value l.p

abbrev pub decreases-loop-d : goal.decreases-loop-d
decreases-loop-d l = length l.text - l.p
