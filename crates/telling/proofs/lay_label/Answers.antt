-- `telling::lay_label` meets its contract, verdict by verdict. Assumes nothing.
use Rattle.text.proofs.Puts.{one-put}
use Rattle.telling.specs.Told.{traces_label, stops_label, goes_label, states_label, verdict_label}
use Rattle.telling.proofs.Judging.{states-labelled}
use Rattle.telling.proofs.lay_label.Goals as goal

pub returns-in-TracesPart : goal.returns-in-TracesPart
unfolding verdict_label traces_label
returns-in-TracesPart c =
    rw c.in-TracesPart.is (one-put {line = traces_label} (rw c.in-TracesPart.is at c.requires) c.put_label.ensures)

pub returns-in-TheirsStops : goal.returns-in-TheirsStops
unfolding verdict_label stops_label
returns-in-TheirsStops c =
    rw c.in-TheirsStops.is (one-put {line = stops_label} (rw c.in-TheirsStops.is at c.requires) c.put_label-in-TheirsStops.ensures)

pub returns-in-OursStops : goal.returns-in-OursStops
unfolding verdict_label goes_label
returns-in-OursStops c =
    rw c.in-OursStops.is (one-put {line = goes_label} (rw c.in-OursStops.is at c.requires) c.put_label-in-OursStops.ensures)

pub returns-in_default : goal.returns-in_default
unfolding states_label
returns-in_default c =
    let d = c.in_default in
    let is = states-labelled c.args.verdict d.not-TracesPart d.not-TheirsStops d.not-OursStops in
    rw is (one-put {line = states_label} (rw is at c.requires) c.put_label-in_default.ensures)
