-- `listing::reading::read_words` meets its contract. The loop's invariant: `Written`. Assumes nothing.
use Rattle.listing.specs.Inside.{Told}
use Rattle.listing.proofs.Written.{Written}
use Rattle.listing.proofs.reading.read_words.Given as goal

abbrev pub invariant-loop-i : goal.invariant-loop-i
invariant-loop-i l = (told : Told l.text l.header l.initial.words l.n) × Written l.text told.whole.table l.initial.words l.words l.at l.i
