-- `words::state::set_port` meets its contract: the word packed is the one that the rulebook sets. Assumes nothing.
use Rattle.rulebook.specs.Lists.{set_port}
use Rattle.words.proofs.state.set_port.Goals as goal

pub returns : goal.returns
unfolding set_port
returns c = c.put_port.ensures
