-- An argument stands above its expression, which has a level less than the operator: hence the measures 2 * levels and 2 * levels + 1.
use Rattle.std.proofs.Common.{◌+◌, ◌*◌}
use Rattle.expression.proofs.+argument_mentions_mentions_in.Given as goal

abbrev pub decreases-argument_mentions : goal.decreases-argument_mentions
decreases-argument_mentions g l = 2 * l.levels + 1

abbrev pub decreases-mentions_in : goal.decreases-mentions_in
decreases-mentions_in g l = 2 * l.levels
