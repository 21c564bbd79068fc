-- `day::play_part` meets its promise: its play is that of the front of the trace, whose words' lines fit. Assumes nothing.
use Rattle.day.proofs.OnePart.{room-is, count-few, lines_fit, tells}
use borrow.Author.Rules.{rules}
use Rattle.day.proofs.play_part.Goals as goal

pub slice_bounds-play-end-2 : goal.slice_bounds-play-end-2
slice_bounds-play-end-2 c =
    let a = c.args in
    room-is a.trace.now a.out.now _ c.min-room.ensures

pub lay_trace-bytes-requires : goal.lay_trace-bytes-requires
lay_trace-bytes-requires c =
    let a = c.args in (
      count-few _ _ a.trace.now _ a.out.now _ c.min-room.ensures _ _ _ _ _ _ c.play-played.ensures,
      lines_fit _ _ a.trace.now _ a.out.now _ c.min-room.ensures _ _ _ _ _ _ c.play-played.ensures,
    )

pub returns : goal.returns
returns c =
    rw c.end_number-number.ensures
    (tells _ _ _ _ _ _ c.min-room.ensures _ _ _ _ _ _ c.play-played.ensures _ _ c.lay_trace-bytes.ensures)
