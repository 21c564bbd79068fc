-- `words::state::set_result` meets its contract: the word packed is the one that the rulebook sets. Assumes nothing.
use Rattle.rulebook.specs.Lists.{set_result}
use Rattle.words.proofs.state.set_result.Goals as goal

pub returns : goal.returns
unfolding set_result
returns c = rw (← c.rule_index.ensures, ← c.pack_rule.ensures) c.put.ensures
