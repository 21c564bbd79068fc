-- `buslog::reading::read_log` meets its promise: the table or the list is refused, or the lines are read. Assumes nothing.
use mathlib.Core.Path.{◌∙◌}
use Rattle.tables.proofs.Accepted.{is-accepted, is-refused}
use Rattle.buslog.proofs.Logs.{no_table, no_names, read, stand-as}
use Rattle.buslog.proofs.reading.read_log.Goals as goal

pub returns-in_default : goal.returns-in_default
returns-in_default c = no_table _ _ _ _ _ (is-refused _ c.check.result c.in_default.not-Ok c.check.ensures) _ c.stopped.ensures

pub returns-then-not-stand : goal.returns-then-not-stand
returns-then-not-stand c =
    let stood = stand-as c.args.words.now c.args.names.now _ c.stand.result (rw c.accepted-t.ensures.0 at c.networks.ensures.value) c.stand.ensures in
    no_names _ _ _ _ _ (is-accepted _ _ _ c.in-Ok.is c.check.ensures) (stood ∙ c.if-not-stand.true) _ c.stopped-then-not-stand.ensures

pub returns : goal.returns
returns c =
    let stood = stand-as c.args.words.now c.args.names.now _ c.stand.result (rw c.accepted-t.ensures.0 at c.networks.ensures.value) c.stand.ensures in
    read _ _ _ _ _ (is-accepted _ _ _ c.in-Ok.is c.check.ensures) (stood ∙ c.if-not-stand.false) _ _ (rw c.accepted-t.ensures.0 at c.read_lines.ensures)

pub accepted-t-requires : goal.accepted-t-requires
accepted-t-requires c = is-accepted _ _ _ c.in-Ok.is c.check.ensures
