-- `buslog::interfaces::stand` meets its contract. The loop's invariant: `StandTo`. Assumes nothing.
use mathlib.Core.Path.{sym, ◌∙◌}
use Rattle.buslog.proofs.Called.{stand-end, misspelt, stands-again, stand-more}
use Rattle.buslog.proofs.interfaces.stand.Goals as goal

pub returns-in_default : goal.returns-in_default
returns-in_default c = misspelt _ _ _ _ c.loop-left.invariant c.loop-left-test.true c.in_default.ensures.stood

pub returns-then-is_some : goal.returns-then-is_some
returns-then-is_some c =
    stands-again _ _ _ _ c.loop-left.invariant c.loop-left-test.true _ c.in-Ok.ensures c.number_of.result c.number_of.ensures
    (sym c.is_some.ensures ∙ c.if-is_some.true)

pub loop-left-preserved : goal.loop-left-preserved
loop-left-preserved c =
    stand-more _ _ _ _ c.loop-left.invariant c.loop-left-test.true _ c.in-Ok.ensures c.number_of.result c.number_of.ensures
    (sym c.is_some.ensures ∙ c.if-is_some.false)

pub returns : goal.returns
returns c = stand-end _ _ _ _ c.loop-left.invariant c.loop-left-test.false
