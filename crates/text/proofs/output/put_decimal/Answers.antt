-- `text::output::put_decimal` meets its contract: the places are counted first. Assumes nothing.
use Rattle.text.specs.Lines.{decimal}
use Rattle.text.proofs.output.put_decimal.Goals as goal

pub returns : goal.returns
unfolding decimal
returns c = rw c.places.ensures at c.put_digits.ensures
