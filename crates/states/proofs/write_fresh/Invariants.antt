-- The words passed are the fresh state's.
use Rattle.std.proofs.Common.{◌≡◌, ℕ, ◌<◌, get_or, length}
use Rattle.rulebook.specs.State.{fresh_at}
use Rattle.states.proofs.write_fresh.Given as goal

abbrev pub invariant-loop-i : goal.invariant-loop-i
invariant-loop-i l = (length l.s ≡ length l.initial.s) × ((k : ℕ) → k < l.i → get_or l.s k 0 ≡ fresh_at l.t.words k)
