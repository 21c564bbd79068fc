-- `play::Play::play_fresh` meets its contract: the state that it makes is ready. Assumes nothing.
use Rattle.session.proofs.Whole.{made-fresh}
use Rattle.play.proofs.Blocks.{fresh-ready}
use Rattle.play.proofs.Play.play_fresh.Goals as goal

pub play_file-requires : goal.play_file-requires
play_file-requires c = (c.requires.0, fresh-ready c.requires.1 c.make_fresh.ensures)

pub returns : goal.returns
returns c =
    let lent = c.requires.1 in
    rw (made-fresh lent.table lent.state c.make_fresh.ensures) at c.play_file.ensures
