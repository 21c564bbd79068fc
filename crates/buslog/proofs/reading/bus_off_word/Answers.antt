-- `buslog::reading::bus_off_word` meets its contract. Assumes nothing.
use Rattle.buslog.proofs.Ticks.{packed}
use Rattle.buslog.proofs.reading.bus_off_word.Goals as goal

pub returns : goal.returns
returns c = packed _ _ _ c.network-network.ensures.owner.value c.network-network.ensures.owner.small c.requires
