-- The cycle of lists, items and rules. A list stands above its items, an item above its rule, a rule above the list that it starts, and each
-- list has a level less: hence the measures 3 * levels, and 3 * below + 2, + 1. The loop over items keeps `Along`.
use Rattle.std.proofs.Common.{◌+◌, ◌*◌}
use Rattle.rulebook.specs.Lists.{start, run_list}
use Rattle.lists.proofs.Along.{Along}
use Rattle.lists.proofs.Items.{items_from}
use Rattle.lists.proofs.+run_item_run_list_run_rule.Given as goal

abbrev pub decreases-run_item : goal.decreases-run_item
decreases-run_item k = 3 * k.below + 2

abbrev pub decreases-run_list : goal.decreases-run_list
decreases-run_list k = 3 * k.levels

abbrev pub decreases-run_rule : goal.decreases-run_rule
decreases-run_rule k = 3 * k.below + 1

abbrev pub invariant-run_list-loop-i : goal.invariant-run_list-loop-i
invariant-run_list-loop-i k =
    Along k.outcomes (run_list k.levels k.t.words k.l (start k.outcomes k.initial.s)) (items_from k.t.words k.below k.list.owner k.i k.i-end)
    k.initial.trace k.s k.trace k.written
