-- `listing::writing::lay_listing` meets its contract. The loop's invariant: `LaidTo`. Assumes nothing.
use Rattle.listing.proofs.Lists.{LaidTo}
use Rattle.listing.proofs.writing.lay_listing.Given as goal

abbrev pub invariant-loop-i : goal.invariant-loop-i
invariant-loop-i l = LaidTo l.t.words l.initial.out l.i l.next l.out
