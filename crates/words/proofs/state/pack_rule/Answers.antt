-- `words::state::pack_rule` meets its contract: the fields, each cut to its width, do not overlap. Assumes nothing.
use native.Mathlib.Omega.{arith}
use Rattle.rulebook.specs.State.{pack_rule}
use Rattle.words.proofs.state.pack_rule.Goals as goal

pub returns : goal.returns
unfolding pack_rule
returns c = omega arith
