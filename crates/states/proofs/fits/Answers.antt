-- `states::fits` meets its contract. Assumes nothing.
use Rattle.std.proofs.Common.{refl, sym, ◌∙◌}
use Rattle.walks.proofs.Walks.{all-turn, all-fails, all_end}
use Rattle.states.proofs.Fitting.{wrong-length, right-length, fits-here}
use Rattle.states.proofs.fits.Goals as goal

pub returns-then-s-end : goal.returns-then-s-end
returns-then-s-end c = wrong-length _ _ _ (rw c.read-table.ensures.0 at c.state_length-end.ensures) c.if-s-end.true

pub loop-i-init : goal.loop-i-init
loop-i-init c = right-length _ _ _ (rw c.read-table.ensures.0 at c.state_length-end.ensures) c.if-s-end.false

pub loop-i-preserved : goal.loop-i-preserved
loop-i-preserved c =
    let here = fits-here _ _ _ _ _ _ (rw c.read-table.ensures.0 at c.thing_fits.ensures) (rw c.read-table.ensures.0 at c.thing.ensures) refl in
    c.loop-i.invariant ∙ all-turn _ _ _ c.loop-i-test.true (here ∙ c.if-not-thing_fits.false)

pub returns-then-not-thing_fits : goal.returns-then-not-thing_fits
returns-then-not-thing_fits c =
    let here = fits-here _ _ _ _ _ _ (rw c.read-table.ensures.0 at c.thing_fits.ensures) (rw c.read-table.ensures.0 at c.thing.ensures) refl in
    sym (c.loop-i.invariant ∙ all-fails _ _ _ c.loop-i-test.true (here ∙ c.if-not-thing_fits.true))

pub returns : goal.returns
returns c = sym (c.loop-i.invariant ∙ all_end _ _ _ c.loop-i-test.false)
