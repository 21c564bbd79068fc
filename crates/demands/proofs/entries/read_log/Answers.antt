-- `demands::entries::read_log`: what is concluded follows from what the call promises. Assumes nothing.
use Rattle.demands.proofs.BusLogs.{of-log}
use Rattle.demands.proofs.entries.read_log.Goals as goal

pub returns : goal.returns
returns c = of-log _ _ _ _ _ _ _ _ _ _ _ c.read_log.ensures
