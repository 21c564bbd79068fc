-- `demands::linked::make_fresh`: what the demands conclude follows from what the entry promises. Assumes nothing.
use Rattle.demands.proofs.Conclusions.{of-fresh}
use Rattle.demands.proofs.linked.make_fresh.Goals as goal

pub returns : goal.returns
returns c = of-fresh _ _ _ _ c.herringcart_make_fresh.ensures
