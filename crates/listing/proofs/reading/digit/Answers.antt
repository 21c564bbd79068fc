-- `listing::reading::digit` meets its contract. Assumes nothing.
use mathlib.Core.Path.{◌∙◌}
use Rattle.listing.proofs.Digits.{reads_digit}
use Rattle.listing.proofs.reading.digit.Goals as goal

pub returns : goal.returns
returns c = reads_digit c.args.text.now c.args.at _ (c.from.ensures ∙ c.byte.ensures) _ c.to_digit.ensures.value c.to_digit.ensures.cases
