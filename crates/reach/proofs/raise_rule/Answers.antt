-- `reach::raise_rule` meets its contract: two flags, by the fields read. Assumes nothing.
use Rattle.reach.proofs.Raised.{rule-up}
use Rattle.reach.proofs.raise_rule.Goals as goal

pub returns : goal.returns
returns c =
    rule-up _ _ _ c.rule-rule.ensures _ _ _ c.requires c.put.ensures c.put-2.ensures
