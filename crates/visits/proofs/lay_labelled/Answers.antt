-- `visits::lay_labelled` meets its contract. Assumes nothing.
use Rattle.visits.proofs.Lines.{labelled-laid}
use borrow.Author.Rules.{rules}
use Rattle.visits.proofs.lay_labelled.Goals as goal

pub returns : goal.returns
returns c =
    labelled-laid _ _ (search rules) c.requires
    c.put_label-next.ensures c.put_decimal.ensures
