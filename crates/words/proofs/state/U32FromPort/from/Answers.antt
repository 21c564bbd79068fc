-- `words::state::U32FromPort::from` meets its contract: the fields, each cut to its width, do not overlap. Assumes nothing.
use native.Mathlib.Omega.{arith}
use Rattle.rulebook.specs.State.{pack_port}
use Rattle.words.proofs.state.U32FromPort.from.Goals as goal

pub returns : goal.returns
unfolding pack_port
returns c = omega arith
