-- `demands::entries::play`: what the demands conclude follows from what the entry promises. Assumes nothing.
use Rattle.demands.proofs.Conclusions.{of-play}
use Rattle.demands.proofs.entries.play.Goals as goal

pub returns : goal.returns
returns c = of-play _ _ _ _ _ _ _ _ _ _ c.play.ensures
