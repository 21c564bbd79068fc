-- `words::field` meets its contract: a remainder is below its divisor. Assumes nothing.
use native.Mathlib.Nat.{mod-lt}
use mathlib.Core.Path.{refl}
use Rattle.rulebook.specs.Words.{digit}
use Rattle.words.proofs.field.Goals as goal

pub returns : goal.returns
unfolding digit
returns c = record { value = refl; small = mod-lt _ c.requires.some_size }
