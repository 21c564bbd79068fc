-- `listing::reading::scan_lines` meets its contract. The loop's invariant: `Scanning`. Assumes nothing.
use Rattle.listing.proofs.Scanning.{Scanning}
use Rattle.listing.proofs.reading.scan_lines.Given as goal

abbrev pub invariant-loop-i : goal.invariant-loop-i
invariant-loop-i l = Scanning l.text l.header l.n l.at l.i
