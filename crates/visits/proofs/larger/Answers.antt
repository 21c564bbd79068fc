-- `visits::larger` meets its contract. Assumes nothing.
use borrow.Author.Tests.{lt-ltb, le-ltb}
use Rattle.visits.specs.Printed.{larger}
use Rattle.visits.proofs.larger.Goals as goal

pub returns-then-l-count : goal.returns-then-l-count
unfolding larger
returns-then-l-count c = rw (lt-ltb _ _ c.if-l-count.true)

pub returns-else-l-count : goal.returns-else-l-count
unfolding larger
returns-else-l-count c = rw (le-ltb _ _ c.if-l-count.false)
