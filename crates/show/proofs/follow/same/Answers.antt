-- `show::follow::same` meets its contract. Assumes nothing.
use Rattle.std.proofs.Common.{◌∙◌}
use Rattle.show.proofs.Same.{compared}
use Rattle.show.proofs.follow.same.Goals as goal

pub returns : goal.returns
returns c = c.eq.ensures ∙ compared _ _
