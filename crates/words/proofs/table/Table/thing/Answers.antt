-- `words::table::Table::thing` meets its contract: each exit by the law of its thing. Assumes nothing.
use Rattle.words.proofs.Things.{port-thing, rule-thing, network-thing, source-thing}
use Rattle.words.proofs.table.Table.thing.Goals as goal

pub returns-then-i-rule0 : goal.returns-then-i-rule0
returns-then-i-rule0 c = rw (← c.self.view_is) (port-thing _ _ c.self.invariant _ c.if-i-rule0.true)

pub returns-then-i-network0 : goal.returns-then-i-network0
returns-then-i-network0 c = rw (← c.self.view_is) (rule-thing _ _ c.self.invariant _ c.if-i-rule0.false c.if-i-network0.true)

pub returns-then-i-source0 : goal.returns-then-i-source0
returns-then-i-source0 c = rw (← c.self.view_is) (network-thing _ _ c.self.invariant _ c.if-i-network0.false c.if-i-source0.true)

pub returns : goal.returns
returns c = rw (← c.self.view_is) (source-thing _ _ c.self.invariant _ c.if-i-source0.false)
