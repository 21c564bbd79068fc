-- `visits::counted` meets its contract. Assumes nothing.
use Rattle.visits.specs.Printed.{counted}
use borrow.Author.Rules.{rules}
use Rattle.visits.proofs.counted.Goals as goal

pub returns : goal.returns
unfolding counted
returns c = rw (c.larger-longest.ensures, c.larger-dearest.ensures)
