-- The lists that are at most d deep have their costs.
use Rattle.cost.specs.Costs.{Costs}
use Rattle.cost.proofs.find_costs.Given as goal

abbrev pub invariant-loop-d : goal.invariant-loop-d
invariant-loop-d l = Costs l.d l.t.words l.costs
