-- `arbitration::run_chosen` meets its contract. The loop keeps `Along`; the measure is the number of flags that are up. Assumes nothing.
use Rattle.rulebook.specs.Words.{sum}
use Rattle.rulebook.specs.Table.{lists}
use Rattle.rulebook.specs.Lists.{start, visit}
use Rattle.rulebook.specs.Arbitration.{order, run_chosen}
use Rattle.words.specs.Flags.{flagged}
use Rattle.lists.proofs.Along.{Along}
use Rattle.arbitration.proofs.Picking.{up_in}
use Rattle.arbitration.proofs.run_chosen.Given as goal

abbrev pub invariant-loop-l : goal.invariant-loop-l
invariant-loop-l l =
    Along l.outcomes
    (run_chosen l.t.words (flagged l.initial.flags) (order l.t.words) (visit l.visits (start l.outcomes l.initial.s)))
    (run_chosen l.t.words (flagged l.flags) (order l.t.words)) l.initial.trace l.s l.trace l.written

abbrev pub decreases-loop-l : goal.decreases-loop-l
decreases-loop-l l = sum 0 (lists l.t.words) (up_in l.flags)
