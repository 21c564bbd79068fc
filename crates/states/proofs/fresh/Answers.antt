-- `states::fresh` meets its promise: each exit by its law. Assumes nothing.
use Rattle.std.proofs.Common.{◌∙◌}
use Rattle.tables.proofs.Accepted.{is-accepted, is-refused}
use Rattle.states.proofs.Making.{bad-table, wrong-length, done}
use Rattle.states.proofs.fresh.Goals as goal

pub returns-in_default : goal.returns-in_default
returns-in_default c = bad-table _ _ (is-refused _ c.check.result c.in_default.not-Ok c.check.ensures)

pub returns-then-s-state_length : goal.returns-then-s-state_length
returns-then-s-state_length c =
    wrong-length _ _ (is-accepted _ _ _ c.in-Ok.is c.check.ensures) _ (rw c.read-table.ensures.0 at c.state_length.ensures) c.if-s-state_length.true

pub write_fresh-requires : goal.write_fresh-requires
write_fresh-requires c = c.if-s-state_length.false ∙ c.state_length.ensures

pub returns : goal.returns
returns c =
    done _ _ (is-accepted _ _ _ c.in-Ok.is c.check.ensures) _ (rw c.read-table.ensures.0 at c.state_length.ensures) _ c.if-s-state_length.false
    (rw c.read-table.ensures.0 at c.write_fresh.ensures)
