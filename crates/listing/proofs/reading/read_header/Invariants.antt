-- `listing::reading::read_header` meets its contract. The loop's invariant: `Heading`. Assumes nothing.
use Rattle.listing.proofs.Heading.{Heading}
use Rattle.listing.proofs.reading.read_header.Given as goal

abbrev pub invariant-loop-i : goal.invariant-loop-i
invariant-loop-i l = Heading l.text l.header l.at l.i
