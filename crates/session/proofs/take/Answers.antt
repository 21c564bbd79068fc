-- `session::take` meets its contract: the event's call is safe, and what it reports is the step. Assumes nothing.
use Rattle.manager.proofs.Steps.{bounded-by}
use Rattle.session.proofs.Steps.{run-safe, taken_is}
use Rattle.session.proofs.take.Goals as goal

pub handle-requires : goal.handle-requires
handle-requires c = record { bounded = bounded-by _ c.requires.table; safe = run-safe _ _ _ _ c.requires _ }

pub returns : goal.returns
returns c = rw (taken_is _ _ _ _ c.requires) c.handle.ensures
