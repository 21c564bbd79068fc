-- `words::state::set_source` meets its contract: the word packed is the one that the rulebook sets. Assumes nothing.
use Rattle.rulebook.specs.Events.{set_source}
use Rattle.words.proofs.state.set_source.Goals as goal

pub returns : goal.returns
unfolding set_source
returns c = rw (← c.source_index.ensures, ← c.from.ensures) c.put.ensures
