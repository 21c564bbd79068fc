-- `states::port_fits` meets its contract: the fields read are the rulebook's. Assumes nothing.
use Rattle.rulebook.specs.State.{port_fits}
use Rattle.walks.proofs.Walks.{either}
use Rattle.states.proofs.port_fits.Goals as goal

pub returns : goal.returns
unfolding port_fits
returns c =
    rw (
      ← c.port-port.ensures.kind.value,
      ← c.port-port.ensures.deferred.value,
      ← c.port-port.ensures.reload.value,
      ← c.bits-zero.ensures.value,
      ← c.from-c.ensures.defined.value,
      ← c.from-c.ensures.marked.value,
      ← c.from-c.ensures.value.value,
      ← c.from-c.ensures.remaining.value,
      either,
    )
