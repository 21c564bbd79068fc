-- `states::rule_fits` meets its contract: the fields read are the rulebook's. Assumes nothing.
use Rattle.rulebook.specs.State.{rule_fits}
use Rattle.states.proofs.rule_fits.Goals as goal

pub returns : goal.returns
unfolding rule_fits
returns c = rw (← c.bits-zero.ensures.value, ← c.result-result.ensures.value)
