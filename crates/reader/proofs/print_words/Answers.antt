-- `reader::print_words` is safe: a table has no more bytes than are lent. Assumes nothing.
use mathlib.Core.Path.{sym}
use native.Mathlib.Omega.{arith}
use lib.Seq.{length-take-le}
use Rattle.text.proofs.Bytes.{all-bytes}
use Rattle.reader.proofs.print_words.Goals as goal

pub slice_bounds-out-end : goal.slice_bounds-out-end
slice_bounds-out-end c =
    omega (arith, c.lay_words-n.ensures.place, all-bytes c.args.t.now, c.lay_words-n.auto.out)

pub slice_bounds-print-end : goal.slice_bounds-print-end
slice_bounds-print-end c =
    sym (length-take-le _ _ (omega (arith, c.lay_words-n.ensures.place, all-bytes c.args.t.now, c.lay_words-n.auto.out)))
