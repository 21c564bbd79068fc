-- `text::output::run` meets its contract. Assumes nothing.
use Rattle.text.proofs.Runs.{run-range, run-empty}
use Rattle.text.proofs.output.run.Goals as goal

pub returns-in-Some : goal.returns-in-Some
returns-in-Some c =
    let a = c.args in
    let h = c.in-Some.ensures.lookup in
    run-range a.words.now a.from a.to _ c.min.ensures h.0.2

pub returns-in-None : goal.returns-in-None
returns-in-None c =
    let a = c.args in
    run-empty a.words.now a.from a.to _ c.min.ensures c.in-None.ensures.lookup.0
