-- `canlog::CanLog::print_events` is safe: the events have no more bytes than are lent. Assumes nothing.
use Rattle.std.proofs.Common.{sym, arith, length-take-le}
use Rattle.text.proofs.Bytes.{all-bytes}
use Rattle.canlog.proofs.CanLog.print_events.Goals as goal

pub slice_bounds-print-end : goal.slice_bounds-print-end
slice_bounds-print-end c =
    let lay = c.lay_words-n in omega (arith, lay.ensures.place, all-bytes c.args.events.now, lay.auto.out, c.requires)

pub slice_bounds-print-end-2 : goal.slice_bounds-print-end-2
slice_bounds-print-end-2 c =
    let lay = c.lay_words-n in
    sym (length-take-le _ _ (omega (arith, lay.ensures.place, all-bytes c.args.events.now, lay.auto.out, c.requires)))
