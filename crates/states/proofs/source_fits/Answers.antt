-- `states::source_fits` meets its contract: the fields read are the rulebook's. Assumes nothing.
use Rattle.rulebook.specs.State.{source_fits}
use Rattle.walks.proofs.Walks.{either}
use Rattle.states.proofs.source_fits.Goals as goal

pub returns : goal.returns
unfolding source_fits
returns c =
    rw (
      ← c.source-source.ensures.timeout.value,
      ← c.bits-zero.ensures.value,
      ← c.from-c.ensures.status.value,
      ← c.from-c.ensures.remaining.value,
      either,
    )
