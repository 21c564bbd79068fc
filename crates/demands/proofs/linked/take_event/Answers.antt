-- `demands::linked::take_event`: what the demands conclude follows from what the entry promises. Assumes nothing.
use Rattle.demands.proofs.Conclusions.{of-event}
use Rattle.demands.proofs.linked.take_event.Goals as goal

pub returns : goal.returns
returns c = of-event _ _ _ _ _ _ _ _ _ _ c.herringcart_take_event.ensures
