-- `buslog::reading::read_lines` meets its contract. The loop's invariant: `ReadTo`. The measure is what is left of the log. Assumes nothing.
use mathlib.Core.Path.{sym, ◌∙◌}
use Rattle.buslog.proofs.Taking.{read-on, read-refused, read-end, line_on, no-error, an-error}
use Rattle.buslog.proofs.reading.read_lines.Goals as goal

pub returns-then-is_err : goal.returns-then-is_err
returns-then-is_err c =
    read-refused _ _ _ _ _ _ _ _ _ c.loop-at.invariant c.loop-at-test.true _ _ c.take_line-step.ensures
    (an-error c.take_line-step.result.end (sym c.is_err.ensures.value ∙ c.if-is_err.true))

pub loop-at-preserved : goal.loop-at-preserved
loop-at-preserved c =
    read-on _ _ _ _ _ _ _ _ _ c.loop-at.invariant c.loop-at-test.true _ _ c.take_line-step.ensures
    (no-error c.take_line-step.result.end (sym c.is_err.ensures.value ∙ c.if-is_err.false))

pub loop-at-smaller : goal.loop-at-smaller
loop-at-smaller c =
    line_on _ _ _ _ _ _ _ _ _ c.loop-at.invariant c.loop-at-test.true _ _ c.take_line-step.ensures
    (no-error c.take_line-step.result.end (sym c.is_err.ensures.value ∙ c.if-is_err.false))

pub returns : goal.returns
returns c = read-end _ _ _ _ _ _ _ _ _ c.loop-at.invariant c.loop-at-test.false _ c.stopped.ensures
