-- `text::output::digit` meets its contract, by its test. Assumes nothing.
use Rattle.std.proofs.Common.{rules}
use Rattle.text.specs.Lines.{hex_digit}
use Rattle.text.proofs.output.digit.Goals as goal

pub returns-then-d-lt10 : goal.returns-then-d-lt10
unfolding hex_digit
returns-then-d-lt10 c = search rules

pub returns-else-d-lt10 : goal.returns-else-d-lt10
unfolding hex_digit
returns-else-d-lt10 c = search rules
