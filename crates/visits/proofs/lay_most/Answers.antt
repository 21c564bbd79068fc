-- `visits::lay_most` meets its promise: B and R are the table's. Assumes nothing.
use native.Mathlib.Omega.{arith}
use mathlib.Core.Path.{◌∙◌}
use Rattle.session.proofs.Lines.{unlaid}
use Rattle.visits.specs.Promises.{most_end}
use Rattle.visits.proofs.Lines.{most-laid, none-lines}
use Rattle.visits.proofs.lay_most.Goals as goal

pub returns-then-out-lt-MOST_END : goal.returns-then-out-lt-MOST_END
returns-then-out-lt-MOST_END c = unlaid most_end _ _ c.if-out-lt-MOST_END.true

pub returns-in_default : goal.returns-in_default
returns-in_default c = none-lines _ _ _ c.in_default.ensures.refused c.if-out-lt-MOST_END.false

pub accepted-requires : goal.accepted-requires
accepted-requires c = c.in-Ok.ensures.accepted

pub returns : goal.returns
returns c =
    let o = c.in-Ok.ensures in
    let rules = rw c.accepted.ensures.0 at c.rules-rules.ensures.value in
    most-laid _ _ _ _ o.accepted o.trace (omega arith)
    c.if-out-lt-MOST_END.false c.lay_largest-second.ensures c.lay_largest.ensures
