-- `states::admit` meets its promise: each exit by its law. Assumes nothing.
use mathlib.Core.Path.{sym, ◌∙◌}
use Rattle.tables.proofs.Accepted.{is-accepted, is-refused}
use Rattle.states.proofs.Admitting.{finding-bound, bad-table, unfit, stands}
use Rattle.states.proofs.admit.Goals as goal

pub returns-in_default : goal.returns-in_default
returns-in_default c = bad-table _ _ (is-refused _ c.check.result c.in_default.not-Ok c.check.ensures)

pub returns-then-fits : goal.returns-then-fits
returns-then-fits c =
    let ok = is-accepted _ _ _ c.in-Ok.is c.check.ensures in
    stands _ _ _ (finding-bound _ _ _ c.in-Ok.is c.check.ensures ok) ok (sym c.fits.ensures ∙ c.if-fits.true)

pub returns-else-fits : goal.returns-else-fits
returns-else-fits c = unfit _ _ (is-accepted _ _ _ c.in-Ok.is c.check.ensures) (sym c.fits.ensures ∙ c.if-fits.false)
