use Rattle.expression.proofs.+within.Given as goal

abbrev pub decreases-within : goal.decreases-within
decreases-within l = l.levels
