-- `hold::hold` meets its promise: our step refused, or the two recordings compared. Assumes nothing.
use mathlib.Core.Path.{sym, ap}
use lib.Seq.{length-take-le}
use Rattle.events.specs.Answers.{number_of}
use Rattle.manager.proofs.Steps.{refuses}
use Rattle.hold.proofs.Verdicts.{count-inside, step-refused, step-done}
use Rattle.hold.proofs.hold.Goals as goal

pub returns-in_default : goal.returns-in_default
returns-in_default c =
    step-refused _ _ _ _ _ c.take_event-answer.ensures c.count-count.ensures c.visits-visits.ensures _ _ c.number.ensures
    (λ z. refuses c.in_default.field-0 (rw c.in_default.is at z))

pub slice_bounds-compare-end : goal.slice_bounds-compare-end
slice_bounds-compare-end c =
    count-inside _ _ _ _ _ c.take_event-answer.ensures c.count-count.ensures c.visits-visits.ensures

pub slice_bounds-compare-end-2 : goal.slice_bounds-compare-end-2
slice_bounds-compare-end-2 c =
    let inside = count-inside _ _ _ _ _ c.take_event-answer.ensures c.count-count.ensures c.visits-visits.ensures in
    sym (length-take-le c.count-count.result _ inside)

pub returns : goal.returns
returns c =
    step-done _ _ _ _ _ c.take_event-answer.ensures c.count-count.ensures c.visits-visits.ensures _ _
    (ap number_of c.in-Ok.is) c.compare-verdict.ensures
