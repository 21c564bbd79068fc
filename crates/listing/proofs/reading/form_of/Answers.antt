-- `listing::reading::form_of` meets its contract: the kind decides. Assumes nothing.
use mathlib.Core.Path.{refl, ap}
use Rattle.listing.specs.Forms.{form_number}
use Rattle.listing.proofs.ByKind.{no_kind, by-kind}
use Rattle.listing.proofs.reading.form_of.Goals as goal

pub returns-in_default-read_number : goal.returns-in_default-read_number
returns-in_default-read_number c =
    rw c.in-Condition.is (no_kind c.args.text.now c.args.at 7 refl c.in_default-read_number.ensures)

pub returns : goal.returns
returns c =
    let is = ap form_number c.in-Condition.is in
    by-kind c.args.text.now c.args.at (form_number c.args.f) is _ _ _ c.in-Some.ensures (rw is at c.of_kind.ensures)
