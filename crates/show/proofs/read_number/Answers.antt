-- `show::read_number` meets its contract. Assumes nothing.
use Rattle.std.proofs.Common.{sym, ◌∙◌, add-one, arith, drop_of_length-le, drop-cons}
use Rattle.show.specs.Printed.{number_from}
use Rattle.show.proofs.read_number.Goals as goal

pub loop-b-preserved : goal.loop-b-preserved
unfolding number_from
loop-b-preserved c =
    let word = c.args.word.now in
    c.loop-b.invariant ∙ rw (drop-cons word c.loop-b.b-index 0 (omega arith), c.with_digit-n.ensures, add-one)

pub returns : goal.returns
unfolding number_from
returns c =
    let word = c.args.word.now in
    sym (rw (drop_of_length-le word {i = c.loop-b.b-index} (omega arith)) at c.loop-b.invariant)
