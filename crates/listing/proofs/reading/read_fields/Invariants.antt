-- `listing::reading::read_fields` meets its contract. The loop's invariant: `Told`. Assumes nothing.
use Rattle.listing.specs.Forms.{form_number}
use Rattle.listing.proofs.Packing.{Told}
use Rattle.listing.proofs.reading.read_fields.Given as goal

abbrev pub invariant-loop-k : goal.invariant-loop-k
invariant-loop-k l = Told (form_number l.fn.f) l.text l.at l.k l.next l.w
