-- `text::output::put_hex_line` meets its contract: a hex line is eight digits in base 16. Assumes nothing.
use Rattle.text.specs.Lines.{hex_line}
use Rattle.text.proofs.output.put_hex_line.Goals as goal

pub returns : goal.returns
unfolding hex_line
returns c =
    let e = rw c.from.ensures at c.put_digits.ensures in
    record { place = e.place; bytes = e.bytes; within = e.within }
