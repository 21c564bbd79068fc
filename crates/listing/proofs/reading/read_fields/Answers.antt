-- `listing::reading::read_fields` meets its contract. The loop's invariant: `Told`. Assumes nothing.
use Prim.Native.Nat.{◌+◌, ◌*◌}
use native.Mathlib.Omega.{arith}
use lib.ListN.{get_or}
use Rattle.listing.specs.Forms.{form_number}
use Rattle.listing.proofs.Widths.{row-length, field-there, size-there, size-some, size-most, ends_low, ends-row}
use Rattle.listing.proofs.Packing.{Told, begin, step, no_word, upper_fits, finish}
use Rattle.listing.proofs.reading.read_fields.Goals as goal
use Rattle.listing.proofs.reading.read_fields.Goals.{In_ok-v}

-- one field more is told
told-more : (c : In_ok-v)
    → Told (form_number c.args.f) c.args.text.now c.args.at (c.loop-k.k + 1) c.in_ok-v.behind (c.loop-k.w * get_or c.sizes-row.result.now c.loop-k.k 0 + c.in_ok-v.v)
told-more c =
    let row = c.sizes-row.ensures.0 in
    step _ _ _ _ _ _ c.loop-k.invariant (field-there _ _ row _ c.loop-k-test.true) _ _ (size-there _ _ row _ c.loop-k-test.true)
    (ends_low _ _ c.ending.ensures).0 (λ w. ends-row _ _ row _ c.loop-k-test.true _ _ w c.ending.ensures) _ _ c.in_ok-v.ensures

pub read_number-requires : goal.read_number-requires
read_number-requires c =
    let row = c.sizes-row.ensures.0 in
    let low = ends_low _ _ c.ending.ensures in
    record {
      inside = c.loop-k.invariant.inside;
      some = size-some _ _ row _ c.loop-k-test.true;
      few = size-most _ _ row _ c.loop-k-test.true;
      ends = low.0;
      ending = low.1;
    }

pub loop-k-init : goal.loop-k-init
loop-k-init c = begin _ _ _ c.requires

pub returns-in_err-v : goal.returns-in_err-v
returns-in_err-v c =
    let row = c.sizes-row.ensures.0 in
    rw c.from_residual.ensures
    (no_word _ _ _ _ _ _ c.loop-k.invariant (field-there _ _ row _ c.loop-k-test.true) _ _ (size-there _ _ row _ c.loop-k-test.true)
    (ends_low _ _ c.ending.ensures).0 (λ w. ends-row _ _ row _ c.loop-k-test.true _ _ w c.ending.ensures) c.in_err-v.ensures)

pub overflow_mul-w : goal.overflow_mul-w
overflow_mul-w c =
    let fits = upper_fits _ _ _ _ _ _ (told-more (goal.at.overflow_mul-w c).In_ok-v) in
    rw c.from.ensures (omega (arith, fits))

pub overflow_add-w : goal.overflow_add-w
overflow_add-w c =
    let fits = upper_fits _ _ _ _ _ _ (told-more (goal.at.overflow_add-w c).In_ok-v) in
    rw (c.from.ensures, c.from-in-loop-k.ensures) (omega (arith, fits))

pub loop-k-preserved : goal.loop-k-preserved
loop-k-preserved c = rw (c.from.ensures, c.from-in-loop-k.ensures) (told-more (goal.at.loop-k-preserved c).In_ok-v)

pub overflow_cast-result : goal.overflow_cast-result
overflow_cast-result c = omega (arith, upper_fits _ _ _ _ _ _ c.loop-k.invariant)

pub returns : goal.returns
returns c = finish _ _ _ _ _ _ c.loop-k.invariant (omega (arith, row-length _ _ c.sizes-row.ensures.0))
