-- `demands::entries::check_state`: what the demands conclude follows from what the entry promises. Assumes nothing.
use Rattle.demands.proofs.Demand1.{state-answered}
use Rattle.demands.proofs.entries.check_state.Goals as goal

pub returns : goal.returns
returns c = state-answered _ _ _ c.check_state.ensures
