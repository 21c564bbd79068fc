-- `words::state::U32FromSource::from` meets its contract: the fields, each cut to its width, do not overlap. Assumes nothing.
use native.Mathlib.Omega.{arith}
use Rattle.rulebook.specs.State.{pack_source}
use Rattle.words.proofs.state.U32FromSource.from.Goals as goal

pub returns : goal.returns
unfolding pack_source
returns c = omega arith
