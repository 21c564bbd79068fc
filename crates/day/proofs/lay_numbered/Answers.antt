-- `day::lay_numbered` meets its contract. Assumes nothing.
use Rattle.day.proofs.State.{numbered-laid}
use borrow.Author.Rules.{rules}
use Rattle.day.proofs.lay_numbered.Goals as goal

pub returns : goal.returns
returns c =
    numbered-laid _ c.requires.0 c.requires.1 c.put_label-next.ensures c.put_decimal.ensures
