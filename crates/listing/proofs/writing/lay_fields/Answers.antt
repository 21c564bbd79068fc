-- `listing::writing::lay_fields` meets its contract. The loop's invariant: `LaidOf`. Assumes nothing.
use native.Mathlib.Omega.{arith}
use mathlib.Core.Path.{◌∙◌}
use Rattle.listing.proofs.Widths.{row-length, field-there, size-there, size-some, ends-row}
use Rattle.listing.proofs.Laying.{laid-begin, laid_next, laid_end, unit-some}
use Rattle.listing.proofs.writing.lay_fields.Goals as goal

pub loop-k-init : goal.loop-k-init
loop-k-init c = laid-begin _ _ _ _

pub nonzero_div-unit : goal.nonzero_div-unit
nonzero_div-unit c = rw c.from-size.ensures (size-some _ _ c.sizes-row.ensures.0 _ c.loop-k-test.true)

pub nonzero_div-from : goal.nonzero_div-from
nonzero_div-from c =
    let row = c.sizes-row.ensures.0 in
    unit-some _ _ _ _ c.requires _ _ _ _ c.loop-k.invariant (field-there _ _ row _ c.loop-k-test.true) _
    (c.from-size.ensures ∙ size-there _ _ row _ c.loop-k-test.true)

pub nonzero_rem-from : goal.nonzero_rem-from
nonzero_rem-from c = rw c.from-size.ensures (size-some _ _ c.sizes-row.ensures.0 _ c.loop-k-test.true)

pub loop-k-preserved : goal.loop-k-preserved
loop-k-preserved c =
    let row = c.sizes-row.ensures.0 in
    laid_next _ _ _ _ c.requires _ _ _ _ c.loop-k.invariant (field-there _ _ row _ c.loop-k-test.true) _ _ _ _ _
    (c.from-size.ensures ∙ size-there _ _ row _ c.loop-k-test.true) (ends-row _ _ row _ c.loop-k-test.true _ _ _ c.ending.ensures) (rw c.from.ensures)
    c.put_decimal-next.ensures

pub returns : goal.returns
returns c = laid_end _ _ _ _ c.requires _ _ _ _ c.loop-k.invariant (omega (arith, row-length _ _ c.sizes-row.ensures.0))
