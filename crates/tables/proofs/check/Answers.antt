-- `tables::check` meets its promise: one of reasons 1 to 4, or what comes behind them. Assumes nothing.
use Rattle.std.proofs.Common.{sym, ◌∙◌}
use Rattle.tables.proofs.Shapes.{as_refused, misshapes}
use Rattle.tables.proofs.check.Goals as goal

pub returns-in_default : goal.returns-in_default
returns-in_default c = c.not_shaped.ensures ∙ rw c.in_default.is (sym (as_refused _) ∙ misshapes _ _ c.in_default.ensures.reason)
