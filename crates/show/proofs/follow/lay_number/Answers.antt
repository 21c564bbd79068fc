-- `show::follow::lay_number` meets its contract. Assumes nothing.
use Rattle.std.proofs.Common.{rules}
use Rattle.show.proofs.Laid.{number-laid}
use Rattle.show.proofs.follow.lay_number.Goals as goal

pub returns : goal.returns
returns c =
    number-laid _ (search rules) c.requires c.put_label-next.ensures c.put_decimal.ensures
