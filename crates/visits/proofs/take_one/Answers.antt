-- `visits::take_one` meets its contract: the event's line tells what its call reports. Assumes nothing.
use Rattle.visits.proofs.Along.{took}
use Rattle.visits.proofs.take_one.Goals as goal

pub returns : goal.returns
returns c =
    took _ _ _ _ _ _ _ c.take-answer.ensures _ _ _ _ c.number.ensures c.count-words.ensures c.visits-visits.ensures _ _ _ _ c.lay_event-next.ensures
