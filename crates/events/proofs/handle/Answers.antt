-- `events::handle` meets its promise: refused with the answer of its check, or done as the run. Assumes nothing.
use Rattle.events.proofs.Exits.{reports-refused, reports-done, not_taken, is-taken}
use Rattle.events.proofs.handle.Goals as goal

pub returns-in_default : goal.returns-in_default
returns-in_default c =
    reports-refused _ _ _ _ _ c.check_event-checked.result (rw c.from-event.ensures at c.check_event-checked.ensures) c.refused.result
    (not_taken c.check_event-checked.result c.in_default.not-Ok) c.refused.ensures.0 c.refused.ensures.1 c.refused.ensures.2

pub returns : goal.returns
returns c =
    reports-done _ _ _ _ _ c.check_event-checked.result (rw c.from-event.ensures at c.check_event-checked.ensures) _ _ _ (is-taken _ c.in-Ok.is)
    (rw (c.from-event.ensures, c.heeded.ensures) at c.happen-written.ensures)
