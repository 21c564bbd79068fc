-- `demands::entries::hold`: what is concluded follows from what the entry promises. Assumes nothing.
use Rattle.demands.proofs.Held.{of-hold}
use Rattle.demands.proofs.entries.hold.Goals as goal

pub returns : goal.returns
returns c = of-hold _ _ _ _ _ _ _ _ _ _ _ _ _ c.hold.ensures
