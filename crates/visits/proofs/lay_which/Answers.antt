-- `visits::lay_which` meets its contract. Assumes nothing.
use Rattle.visits.proofs.Lines.{none-laid, some-laid}
use borrow.Author.Rules.{rules}
use Rattle.visits.proofs.lay_which.Goals as goal

pub returns-then-events-eq0 : goal.returns-then-events-eq0
returns-then-events-eq0 c = rw c.if-events-eq0.true (none-laid _ c.requires c.put_label.ensures)

pub returns : goal.returns
returns c = some-laid _ _ c.if-events-eq0.false c.lay_labelled.ensures
