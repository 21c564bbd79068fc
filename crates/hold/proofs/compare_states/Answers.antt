-- `hold::compare_states` meets its contract. Assumes nothing.
use Rattle.std.proofs.Common.{arith, length}
use Rattle.text.proofs.Digits.{below}
use Rattle.hold.proofs.Verdicts.{states-ours, states-theirs, states-same}
use Rattle.hold.proofs.compare_states.Goals as goal

pub returns-then-k-max : goal.returns-then-k-max
returns-then-k-max c =
    let e = c.parting-k.ensures in
    below c.parting-k.result (length c.args.ours.now) (λ h. states-ours _ _ _ e h) (λ past. states-theirs _ _ _ e past (omega arith))

pub returns : goal.returns
returns c = states-same _ _ _ c.parting-k.ensures (omega arith) (omega arith)
