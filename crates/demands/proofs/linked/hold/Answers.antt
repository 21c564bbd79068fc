-- `demands::linked::hold`: what is concluded follows from what the entry promises. Assumes nothing.
use Rattle.demands.proofs.Held.{of-hold-c}
use Rattle.demands.proofs.linked.hold.Goals as goal

pub returns : goal.returns
returns c =
    let both = of-hold-c _ _ _ _ _ _ _ _ _ _ _ _ _ _ c.herringcart_hold.ensures in record { of_hold = both.0; rest_after = both.1 }
