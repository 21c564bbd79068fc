-- `panel::numeral_length` meets its contract: as many digits as the number has places, and one byte more. Assumes nothing.
use native.Mathlib.Omega.{arith}
use Rattle.text.proofs.Decimal.{places-within}
use Rattle.panel.proofs.Parts.{length-numeral}
use Rattle.panel.proofs.numeral_length.Goals as goal

pub overflow_add-result : goal.overflow_add-result
overflow_add-result c = let few = places-within 2 _ c.requires in omega (arith, c.places.ensures)

pub returns : goal.returns
returns c =
    let few = places-within 2 _ c.requires in
    let long = length-numeral c.args.i in
    (omega (arith, c.places.ensures), omega (arith, c.places.ensures))
