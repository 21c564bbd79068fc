-- `session::take_one` meets its contract: the event's lines have room. Assumes nothing.
use Rattle.session.proofs.Steps.{number_small, count-few, room-enough, took}
use Rattle.session.proofs.take_one.Goals as goal

pub lay_lines-requires : goal.lay_lines-requires
lay_lines-requires c =
    let ready = c.requires.0 in
    let told = c.take-answer.ensures in
    let number = c.number-number.ensures in
    let count = c.count-count.ensures in (
      number_small _ _ _ _ ready _ _ _ told _ _ number count,
      count-few _ _ _ _ ready _ _ _ told _ _ number count,
      room-enough _ _ _ _ ready _ _ _ told _ _ number count _ _ c.requires.1,
    )

pub returns : goal.returns
returns c =
    took _ _ _ _ c.requires.0 _ _ _ c.take-answer.ensures _ _ c.number-number.ensures c.count-count.ensures _ _ _ _ c.lay_lines.ensures
