-- `demands::entries::read`: what is concluded follows from what the call promises. Assumes nothing.
use Rattle.demands.proofs.Listed.{of-read}
use Rattle.demands.proofs.entries.read.Goals as goal

pub returns : goal.returns
returns c = of-read _ _ c.read.result _ c.read.ensures
