-- `words::table::Table::part` meets its contract: each exit by the law of its section. Assumes nothing.
use Rattle.words.proofs.Places.{header-part, port-part, network-part, waits-part, source-part, expression-part, rule-part, list-part, item-part}
use Rattle.words.proofs.table.Table.part.Goals as goal

pub returns-then-layout-i : goal.returns-then-layout-i
returns-then-layout-i c = rw (← c.self.view_is) (item-part _ _ c.self.invariant _ c.if-layout-i.true)

pub returns-then-layout-i-2 : goal.returns-then-layout-i-2
returns-then-layout-i-2 c = rw (← c.self.view_is) (list-part _ _ c.self.invariant _ c.if-layout-i-2.true c.if-layout-i.false)

pub returns-then-layout-i-3 : goal.returns-then-layout-i-3
returns-then-layout-i-3 c = rw (← c.self.view_is) (rule-part _ _ c.self.invariant _ c.if-layout-i-3.true c.if-layout-i-2.false)

pub returns-then-layout-i-4 : goal.returns-then-layout-i-4
returns-then-layout-i-4 c = rw (← c.self.view_is) (expression-part _ _ c.self.invariant _ c.if-layout-i-4.true c.if-layout-i-3.false)

pub returns-then-layout-i-5 : goal.returns-then-layout-i-5
returns-then-layout-i-5 c = rw (← c.self.view_is) (source-part _ _ c.self.invariant _ c.if-layout-i-5.true c.if-layout-i-4.false)

pub returns-then-j-eq0 : goal.returns-then-j-eq0
returns-then-j-eq0 c =
    rw (← c.self.view_is) (network-part _ _ c.self.invariant _ c.if-layout-i-6.true c.if-layout-i-5.false c.if-j-eq0.true)

pub returns-then-layout-i-6 : goal.returns-then-layout-i-6
returns-then-layout-i-6 c =
    rw (← c.self.view_is) (waits-part _ _ c.self.invariant _ c.if-layout-i-6.true c.if-layout-i-5.false c.if-j-eq0.false)

pub returns-then-i-ge3 : goal.returns-then-i-ge3
returns-then-i-ge3 c = rw (← c.self.view_is) (port-part _ _ c.self.invariant _ c.if-i-ge3.true c.if-layout-i-6.false)

pub returns : goal.returns
returns c = rw (← c.self.view_is) (header-part _ _ c.self.invariant _ c.if-i-ge3.false)
