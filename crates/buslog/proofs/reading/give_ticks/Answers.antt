-- `buslog::reading::give_ticks` meets its contract. Assumes nothing.
use Rattle.buslog.proofs.Ticks.{fills}
use Rattle.buslog.proofs.reading.give_ticks.Goals as goal

pub returns : goal.returns
returns c = fills _ _ _ _ _ c.requires c.min.ensures (c.fill.ensures.after (λ y e. e))
