-- `run::Run::run_fresh` meets its contract: the state that it makes is ready. Assumes nothing.
use Rattle.session.proofs.Whole.{made-fresh, fresh-ready}
use Rattle.run.proofs.Run.run_fresh.Goals as goal

pub run-requires : goal.run-requires
run-requires c =
    let p = c.requires in
    (p.0, fresh-ready p.1.table (made-fresh p.1.table p.1.state c.make_fresh.ensures) p.1.room)

pub returns : goal.returns
returns c =
    let p = c.requires.1 in
    rw (made-fresh p.table p.state c.make_fresh.ensures) at c.run.ensures
