-- `reach::pass_on` meets its contract: each exit by its law. Assumes nothing.
use Rattle.reach.proofs.Rounds.{pass-none, pass-down, pass_all}
use Rattle.reach.proofs.pass_on.Goals as goal

pub returns-then-depth-d : goal.returns-then-depth-d
returns-then-depth-d c = pass-none _ _ _ _ _ _ c.word-depth.ensures c.requires.long c.if-depth-d.true

pub returns-then-flag : goal.returns-then-flag
returns-then-flag c =
    pass_all _ _ _ _ _ _ c.word-depth.ensures _ c.flag.ensures _ c.if-depth-d.false c.if-flag.true c.raise_list.ensures

pub returns-else-flag : goal.returns-else-flag
returns-else-flag c =
    pass-down _ _ _ _ _ _ c.word-depth.ensures _ c.flag.ensures c.requires.long c.if-flag.false
