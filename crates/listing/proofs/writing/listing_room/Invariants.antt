-- `listing::writing::listing_room` meets its contract. The loop's invariant: `LeftOf`. Assumes nothing.
use Rattle.listing.proofs.Lists.{LeftOf}
use Rattle.listing.proofs.writing.listing_room.Given as goal

abbrev pub invariant-loop-i : goal.invariant-loop-i
invariant-loop-i l = LeftOf l.t.words l.room l.left l.i
