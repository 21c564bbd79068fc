-- `demands::entries::list`: what is concluded follows from what the call promises. Assumes nothing.
use Rattle.demands.proofs.Listed.{of-listing}
use Rattle.demands.proofs.entries.list.Goals as goal

pub returns : goal.returns
returns c =
    of-listing _ _ _ _ _ c.list.ensures (λ i. (c.shared_slice_known-1.given i).fits)
