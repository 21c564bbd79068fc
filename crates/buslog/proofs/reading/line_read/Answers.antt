-- `buslog::reading::line_read` meets its contract. Assumes nothing.
use native.Mathlib.Omega.{arith}
use Rattle.buslog.specs.Promises.{cursor_as}
use Rattle.buslog.proofs.Ticks.{given-small}
use Rattle.buslog.proofs.reading.line_read.Goals as goal

pub overflow_add-result : goal.overflow_add-result
overflow_add-result c =
    let a = c.args in
    omega (arith, c.ticks_due.ensures.0, given-small (cursor_as a.c) a.time (omega arith) (omega arith))
