-- `listing::reading::scan_lines` meets its contract. The loop's invariant: `Scanning`. Assumes nothing.
use native.Mathlib.Omega.{arith}
use Rattle.std.proofs.lemmas.Result.{err_from_is_err_and}
use Rattle.listing.proofs.Cases.{line_as, misspelt-as, missing}
use Rattle.listing.proofs.Scanning.{misspelt, step, extra, whole}
use Rattle.listing.proofs.reading.scan_lines.Goals as goal

pub returns-in_err-next : goal.returns-in_err-next
returns-in_err-next c =
    let p = err_from_is_err_and c.from_residual.result c.from_residual.ensures.1 in
    let told = c.in_err-next.ensures in
    rw (p.1, p.2, missing _ _ _ told.ok_part told.value)
    (misspelt _ _ _ _ _ c.requires.sound (rw c.read-t.ensures.0 at c.length-n.ensures) c.loop-i.invariant c.loop-i-test.true
    (misspelt-as c.args.text.now c.loop-i.at _ (rw c.read-t.ensures.0 at c.form_at.ensures) c.read_line.ensures told.ok_part))

pub loop-i-preserved : goal.loop-i-preserved
loop-i-preserved c =
    step _ _ _ _ _ c.requires.sound (rw c.read-t.ensures.0 at c.length-n.ensures) c.loop-i.invariant c.loop-i-test.true _ _
    (line_as c.args.text.now c.loop-i.at _ (rw c.read-t.ensures.0 at c.form_at.ensures) c.read_line.ensures c.in_ok-next.ensures.ok_part)

pub returns-then-at-text : goal.returns-then-at-text
returns-then-at-text c =
    extra _ _ _ _ _ c.requires.sound (rw c.read-t.ensures.0 at c.length-n.ensures) c.loop-i.invariant (omega (arith, c.loop-i.invariant.to)) c.if-at-text.true

pub returns : goal.returns
returns c =
    whole _ _ _ _ _ c.requires.sound (rw c.read-t.ensures.0 at c.length-n.ensures) c.loop-i.invariant (omega (arith, c.loop-i.invariant.to)) c.requires.long
    c.if-at-text.false
