-- The total with what the rest of the lists cost is B, once held.
use Rattle.std.proofs.Common.{◌≡◌, ◌+◌, ◌-◌, ◌≤◌}
use Rattle.rulebook.specs.Words.{sum}
use Rattle.rulebook.specs.Table as Table
use Rattle.rulebook.specs.Reasons as Reasons
use Rattle.cost.specs.Costs.{capped}
use Rattle.cost.proofs.bound.Given as goal

abbrev pub invariant-loop-l : goal.invariant-loop-l
invariant-loop-l l =
    (l.total ≤ 4097)
    × (capped (Reasons.bound l.t.words) ≡ capped (l.total + sum l.l (Table.lists l.t.words - l.l) (Reasons.cost_within 7 l.t.words)))
