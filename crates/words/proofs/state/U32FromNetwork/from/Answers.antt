-- `words::state::U32FromNetwork::from` meets its contract: the fields, each cut to its width, do not overlap. Assumes nothing.
use native.Mathlib.Omega.{arith}
use Rattle.rulebook.specs.State.{pack_network}
use Rattle.words.proofs.state.U32FromNetwork.from.Goals as goal

pub returns : goal.returns
unfolding pack_network
returns c = omega arith
