-- `listing::reading::read_words` meets its contract. The loop's invariant: `Written`. Assumes nothing.
use native.Mathlib.Omega.{arith}
use Rattle.listing.proofs.Cases.{line_as, some_line}
use Rattle.listing.proofs.Written.{fits, begin, step, never, long-header}
use Rattle.listing.proofs.reading.read_words.Goals as goal

pub loop-i-init : goal.loop-i-init
loop-i-init c = let told = c.requires in (told, begin _ _ _ told.whole.listed (fits _ _ _ _ told))

pub form_at-requires : goal.form_at-requires
form_at-requires c =
    let told = c.loop-i.invariant.0 in
    let all = long-header _ _ _ told.whole.listed (fits _ _ _ _ told) _ _ _ _ told.whole.headed c.loop-i.invariant.1 in
    rw c.read-t.ensures.0 (omega (arith, told.whole.count))

pub unwrap-w-requires : goal.unwrap-w-requires
unwrap-w-requires c =
    let told = c.loop-i.invariant.0 in
    some_line c.args.text.now c.loop-i.at _ (rw c.read-t.ensures.0 at c.form_at.ensures) c.read_line-line.ensures
    (never _ _ _ told.whole.listed (fits _ _ _ _ told) _ _ _ _ told.whole.headed c.loop-i.invariant.1 (omega (arith, told.whole.count)))

pub loop-i-preserved : goal.loop-i-preserved
loop-i-preserved c =
    let told = c.loop-i.invariant.0 in (
      told,
      step _ _ _ told.whole.listed (fits _ _ _ _ told) _ _ _ _ told.whole.headed c.loop-i.invariant.1 (omega (arith, told.whole.count)) _ _
          (line_as c.args.text.now c.loop-i.at _ (rw c.read-t.ensures.0 at c.form_at.ensures) c.read_line-line.ensures c.unwrap-w.ensures),
    )
