-- The lists passed that are at most d + 1 deep have their costs.
use Rattle.cost.proofs.Capped.{Priced}
use Rattle.cost.proofs.cost_level.Given as goal

abbrev pub invariant-loop-l : goal.invariant-loop-l
invariant-loop-l l = Priced l.d l.l l.t.words l.costs
