-- `reach::raise_start` meets its contract: each exit by its law. Assumes nothing.
use Rattle.reach.proofs.Raised.{start_up, start_none}
use Rattle.reach.proofs.raise_start.Goals as goal

pub returns-then-rule-eq0 : goal.returns-then-rule-eq0
returns-then-rule-eq0 c =
    start_up _ _ _ c.rule-rule.ensures _ _ c.if-rule-eq0.true c.raise_rule.ensures

pub returns-else-rule-eq0 : goal.returns-else-rule-eq0
returns-else-rule-eq0 c =
    start_none _ _ _ c.rule-rule.ensures _ c.requires c.if-rule-eq0.false
