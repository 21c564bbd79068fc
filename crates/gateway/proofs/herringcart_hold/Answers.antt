-- `gateway::herringcart_hold` meets its promise: `hold`'s, in numbers. Assumes nothing.
use Rattle.hold.proofs.Unique.{for-c}
use Rattle.gateway.proofs.herringcart_hold.Goals as goal

pub returns : goal.returns
returns c = for-c c.hold-held.ensures c.number.ensures c.given.ensures c.part.ensures
