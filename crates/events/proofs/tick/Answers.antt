-- `events::tick` meets its contract: what counts has counted, and the marked ports are arbitrated. Assumes nothing.
use Rattle.rulebook.specs.Events.{tick}
use Rattle.events.proofs.tick.Goals as goal

pub arbitrate_marked-requires : goal.arbitrate_marked-requires
unfolding tick
arbitrate_marked-requires c = record { bounded = c.requires.bounded; safe = rw c.tick_things.ensures c.requires.safe }

pub returns : goal.returns
unfolding tick
returns c = rw (← c.tick_things.ensures) c.arbitrate_marked.ensures
