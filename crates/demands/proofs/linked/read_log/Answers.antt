-- `demands::linked::read_log`: what is concluded follows from what the call promises. Assumes nothing.
use Rattle.demands.proofs.BusLogs.{of-log}
use Rattle.demands.proofs.linked.read_log.Goals as goal

pub returns : goal.returns
returns c = of-log _ _ _ _ _ _ _ _ _ _ _ c.herringcart_read_log.ensures
