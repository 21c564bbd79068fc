-- The total with what the rest of the items cost is the list's cost, once held.
use Rattle.std.proofs.Common.{◌≡◌, ◌+◌, ◌-◌, ◌≤◌}
use Rattle.rulebook.specs.Words.{sum}
use Rattle.rulebook.specs.Reasons.{list_cost, item_cost}
use Rattle.cost.specs.Costs.{capped, cost_in}
use Rattle.cost.proofs.list_cost.Given as goal

abbrev pub invariant-loop-i : goal.invariant-loop-i
invariant-loop-i l =
    (l.total ≤ 4097)
    × (capped (list_cost l.t.words (cost_in l.below) l.fn.l) ≡ capped (l.total + sum l.i (l.i-end - l.i) (item_cost l.t.words (cost_in l.below))))
