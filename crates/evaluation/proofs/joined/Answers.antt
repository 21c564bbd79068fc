-- `evaluation::joined` meets its contract: an XOR of two truth values says that they differ. Assumes nothing.
use mathlib.Core.Bool.{xor}
use Rattle.rulebook.specs.Expressions.{joined}
use Rattle.evaluation.proofs.joined.Goals as goal

pub returns-in-6 : goal.returns-in-6
unfolding joined xor
returns-in-6 c = rw c.in-6.is
