-- `demands::entries::make_fresh`: what the demands conclude follows from what the entry promises. Assumes nothing.
use Rattle.demands.proofs.Conclusions.{of-fresh}
use Rattle.demands.proofs.entries.make_fresh.Goals as goal

pub returns : goal.returns
returns c = of-fresh _ _ _ _ c.make_fresh.ensures
