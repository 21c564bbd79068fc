-- `states::network_fits` meets its contract: the fields read are the rulebook's. Assumes nothing.
use Rattle.rulebook.specs.State.{network_fits}
use Rattle.walks.proofs.Walks.{either}
use Rattle.words.proofs.Things.{same_asked, same-state, same-counter, same-heard, same-remaining}
use Rattle.states.proofs.network_fits.Goals as goal

pub returns : goal.returns
unfolding network_fits
returns c =
    rw (
      ← c.waits-waits.ensures.l1.value,
      ← c.waits-waits.ensures.l2.value,
      ← c.max-longest.ensures,
      ← c.waits-waits.ensures.e-ticks.value,
      ← c.bits-zero.ensures.value,
      ← same_asked c.from-c.ensures,
      ← same-state c.from-c.ensures,
      ← same-counter c.from-c.ensures,
      ← same-heard c.from-c.ensures,
      ← same-remaining c.from-c.ensures,
      either,
      either,
      either,
    )
