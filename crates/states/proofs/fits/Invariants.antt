-- What the whole walk gives is what the rest of it gives.
use Rattle.std.proofs.Common.{◌≡◌, ◌-◌}
use Rattle.rulebook.specs.Words.{all}
use Rattle.rulebook.specs.State as State
use Rattle.states.proofs.fits.Given as goal

abbrev pub invariant-loop-i : goal.invariant-loop-i
invariant-loop-i l = State.fits l.t l.s ≡ all l.i (l.end - l.i) (State.fits_at l.t l.s)
