-- `timing::Timing::time_fresh` meets its contract: the state that it makes is ready. Assumes nothing.
use Rattle.session.proofs.Whole.{made-fresh}
use Rattle.timing.proofs.Kept.{fresh-going}
use Rattle.timing.proofs.Timing.time_fresh.Goals as goal

pub time_file-requires : goal.time_file-requires
time_file-requires c = (c.requires.0, fresh-going c.requires.1 c.make_fresh.ensures)

pub returns : goal.returns
returns c =
    let lent = c.requires.1 in
    rw (made-fresh lent.table lent.state c.make_fresh.ensures) at c.time_file.ensures
