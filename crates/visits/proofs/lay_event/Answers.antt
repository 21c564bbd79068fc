-- `visits::lay_event` meets its contract. Assumes nothing.
use Rattle.visits.proofs.Lines.{event-laid}
use borrow.Author.Rules.{rules}
use Rattle.visits.proofs.lay_event.Goals as goal

pub returns : goal.returns
returns c =
    event-laid _ _ _ _ c.requires
    c.lay_labelled-second.ensures c.lay_labelled-third.ensures
    c.lay_labelled-fourth.ensures c.lay_labelled.ensures
