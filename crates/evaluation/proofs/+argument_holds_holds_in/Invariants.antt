-- An argument stands above its expression, which has a level less than the operator: hence the measures 2 * levels and 2 * levels + 1.
use Rattle.std.proofs.Common.{◌+◌, ◌*◌}
use Rattle.evaluation.proofs.+argument_holds_holds_in.Given as goal

abbrev pub decreases-argument_holds : goal.decreases-argument_holds
decreases-argument_holds l = 2 * l.levels + 1

abbrev pub decreases-holds_in : goal.decreases-holds_in
decreases-holds_in l = 2 * l.levels
