-- `listing::reading::read_header` meets its contract. The loop's invariant: `Heading`. Assumes nothing.
use mathlib.Core.Path.{sym, ◌∙◌}
use Rattle.std.proofs.lemmas.Result.{err_from_is_err_and}
use Rattle.listing.proofs.Cases.{line_as, misspelt-as, missing}
use Rattle.listing.proofs.Heading.{begin, misspelt, step, unsound}
use Rattle.listing.proofs.reading.read_header.Goals as goal

pub loop-i-init : goal.loop-i-init
loop-i-init c = let asked = c.requires in rw asked (begin _)

pub returns-in_err-w : goal.returns-in_err-w
returns-in_err-w c =
    let p = err_from_is_err_and c.from_residual.result c.from_residual.ensures.1 in
    let told = c.in_err-w.ensures in
    rw (p.1, p.2, missing _ _ _ told.ok_part told.value)
    (misspelt _ _ _ _ c.loop-i.invariant c.loop-i-test.true (misspelt-as c.args.text.now c.loop-i.at _ c.from.ensures c.read_line.ensures told.ok_part))

pub returns-then-not-sound_header : goal.returns-then-not-sound_header
returns-then-not-sound_header c =
    unsound _ _ _ _ c.loop-i.invariant c.loop-i-test.true _ _ (line_as c.args.text.now c.loop-i.at _ c.from.ensures c.read_line.ensures c.in_ok-w.ensures.ok_part)
    (sym c.sound_header.ensures ∙ c.if-not-sound_header.true)

pub loop-i-preserved : goal.loop-i-preserved
loop-i-preserved c =
    step _ _ _ _ c.loop-i.invariant c.loop-i-test.true _ _ (line_as c.args.text.now c.loop-i.at _ c.from.ensures c.read_line.ensures c.in_ok-w.ensures.ok_part)
    (sym c.sound_header.ensures ∙ c.if-not-sound_header.false)
