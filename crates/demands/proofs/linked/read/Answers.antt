-- `demands::linked::read`: what is concluded follows from what the call promises. Assumes nothing.
use Rattle.demands.proofs.Listed.{of-reading}
use Rattle.demands.proofs.linked.read.Goals as goal

pub returns : goal.returns
returns c = of-reading _ _ _ _ _ _ c.herringcart_read.ensures
