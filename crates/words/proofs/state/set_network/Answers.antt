-- `words::state::set_network` meets its contract: the word packed is the one that the rulebook sets. Assumes nothing.
use Rattle.rulebook.specs.Lists.{set_network}
use Rattle.words.proofs.state.set_network.Goals as goal

pub returns : goal.returns
unfolding set_network
returns c = rw (← c.network_index.ensures, ← c.from.ensures) c.put.ensures
