-- `hold::compare` meets its contract. Assumes nothing.
use Rattle.std.proofs.Common.{arith}
use Rattle.hold.proofs.Verdicts.{traces-part, theirs-stop, ours-stop, then-states}
use Rattle.hold.proofs.compare.Goals as goal

pub returns-in-true-true : goal.returns-in-true-true
returns-in-true-true c = traces-part _ _ _ _ _ c.parting-at.ensures (omega arith) (omega arith)

pub returns-in-true-false : goal.returns-in-true-false
returns-in-true-false c = theirs-stop _ _ _ _ _ c.parting-at.ensures (omega arith) (omega arith)

pub returns-in-false-true : goal.returns-in-false-true
returns-in-false-true c = ours-stop _ _ _ _ _ c.parting-at.ensures (omega arith) (omega arith)

pub returns-in-false-false : goal.returns-in-false-false
returns-in-false-false c = then-states _ _ _ _ _ c.parting-at.ensures (omega arith) (omega arith) c.compare_states.ensures
