-- `listing::writing::lay_fields` meets its contract. The loop's invariant: `LaidOf`. Assumes nothing.
use Rattle.listing.specs.Forms.{form_number}
use Rattle.listing.proofs.Laying.{LaidOf}
use Rattle.listing.proofs.writing.lay_fields.Given as goal

abbrev pub invariant-loop-k : goal.invariant-loop-k
invariant-loop-k l = LaidOf (form_number l.fn.f) l.w l.initial.out l.at l.next l.out l.k l.unit
