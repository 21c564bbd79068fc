-- What the whole word says is what the rest of it makes of the number so far.
use Rattle.std.proofs.Common.{◌≡◌, drop}
use Rattle.show.specs.Printed.{number_from}
use Rattle.show.proofs.read_number.Given as goal

abbrev pub invariant-loop-b : goal.invariant-loop-b
invariant-loop-b l = number_from 0 l.word ≡ number_from l.n (drop l.b-index l.word)
