-- `visits::lay_largest` meets its contract. Assumes nothing.
use Rattle.visits.proofs.Lines.{largest-laid}
use borrow.Author.Rules.{rules}
use Rattle.visits.proofs.lay_largest.Goals as goal

pub returns : goal.returns
returns c =
    largest-laid _ _ _ _ c.requires c.lay_labelled-second.ensures
    c.lay_which-third.ensures c.lay_labelled.ensures
