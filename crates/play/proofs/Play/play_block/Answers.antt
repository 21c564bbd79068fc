-- `play::Play::play_block` meets its contract: there is room for all words of a block. Assumes nothing.
use Rattle.std.proofs.Common.{arith}
use Rattle.text.proofs.Words.{counted}
use Rattle.play.proofs.Blocks.{played-read}
use Rattle.play.proofs.Play.play_block.Goals as goal

pub returns : goal.returns
returns c =
    played-read _ _ _ _ c.read_words-count.ensures
    (omega (arith, counted c.args.block.now, c.requires.1, c.event_words-words.ensures))
    c.play_events.ensures
