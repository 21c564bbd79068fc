-- `buslog::reading::give` meets its contract: no room for the ticks, ticks alone, no room for the bus-off, or both. Assumes nothing.
use mathlib.Core.Path.{refl, ◌∙◌}
use native.Mathlib.Omega.{arith}
use Rattle.rulebook.specs.BusLog.{more_given}
use Rattle.buslog.specs.Promises.{cursor_as}
use Rattle.buslog.proofs.Ticks.{given-small}
use Rattle.buslog.proofs.Giving.{few-ticks, no-bus-off, ticks-alone, ticks-and-off}
use Rattle.buslog.proofs.reading.give.Goals as goal

pub overflow_add-given : goal.overflow_add-given
overflow_add-given c =
    let a = c.args in
    omega (
      arith,
      c.give_ticks-events.ensures.count,
      c.ticks_due-due.ensures.0,
      given-small (cursor_as a.c) a.line.time (omega arith) c.ticks_due-due.ensures.1,
    )

pub returns-then-events-n : goal.returns-then-events-n
unfolding more_given
returns-then-events-n c =
    few-ticks _ _ _ _ _ _ _ c.requires.1 _ _ _ c.ticks_due-due.ensures.0 c.give_ticks-events.ensures _ c.no_room.ensures.end
    c.no_room.ensures.cursor c.no_room.ensures.events c.no_room.ensures.bytes _ refl c.if-events-n.true

pub returns-then-not-line : goal.returns-then-not-line
returns-then-not-line c =
    ticks-alone _ _ _ _ _ _ _ c.requires.1 _ _ _ c.ticks_due-due.ensures.0 c.give_ticks-events.ensures c.if-events-n.false
    c.if-not-line.true _ refl c.line_read-cursor.ensures refl refl

pub returns-then-events-out : goal.returns-then-events-out
unfolding more_given
returns-then-events-out c =
    no-bus-off _ _ _ _ _ _ _ c.requires.1 _ _ _ c.ticks_due-due.ensures.0 c.give_ticks-events.ensures _ c.no_room-then-events-out.ensures.end
    c.no_room-then-events-out.ensures.cursor c.no_room-then-events-out.ensures.events c.no_room-then-events-out.ensures.bytes c.if-not-line.false
    c.if-events-n.false (c.if-events-out.true ∙ c.give_ticks-events.ensures.long)

pub returns : goal.returns
returns c =
    ticks-and-off _ _ _ _ _ _ _ c.requires.1 _ _ _ c.ticks_due-due.ensures.0 c.give_ticks-events.ensures c.if-events-n.false
    c.if-not-line.false (omega (arith, c.give_ticks-events.ensures)) _ c.bus_off_word.ensures _ refl c.line_read-cursor.ensures refl refl
