-- `panel::View::part_room` meets its contract. Assumes nothing.
use Rattle.std.proofs.Common.{arith}
use Rattle.panel.proofs.Along.{left-begin, left-next, left-short, left_end}
use Rattle.panel.proofs.View.part_room.Goals as goal

pub loop-i-init : goal.loop-i-init
loop-i-init c = left-begin _ _ _ _ _ _

pub returns-in_err-left : goal.returns-in_err-left
returns-in_err-left c =
    rw c.from_residual.ensures
    (left-short _ _ _ _ _ _ _ c.loop-i.i _ (omega (arith, c.count-i-end.ensures)) c.length_at.ensures (omega (arith, c.in_err-left.ensures)) c.loop-i.invariant)

pub loop-i-preserved : goal.loop-i-preserved
loop-i-preserved c =
    let taken = c.in_ok-left.ensures in
    rw taken.1 (left-next _ _ _ _ _ _ _ c.loop-i.i _ (omega (arith, c.count-i-end.ensures)) c.length_at.ensures taken.0 c.loop-i.invariant)

pub returns : goal.returns
returns c = left_end _ _ _ _ _ _ _ _ (omega (arith, c.count-i-end.ensures)) c.loop-i.invariant
