-- `words::flag` meets its contract: the word read is the flag's. Assumes nothing.
use Rattle.words.specs.Flags.{flagged}
use Rattle.words.proofs.flag.Goals as goal

pub returns : goal.returns
unfolding flagged
returns c = rw (← c.word.ensures)
