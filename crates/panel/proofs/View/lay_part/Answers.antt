-- `panel::View::lay_part` meets its contract. Assumes nothing.
use Rattle.std.proofs.Common.{arith}
use Rattle.panel.proofs.Along.{laid-begin, laid-room, laid_next, laid_end}
use Rattle.panel.proofs.View.lay_part.Goals as goal

pub loop-i-init : goal.loop-i-init
loop-i-init c = laid-begin _ _ _ _ _ _ _

pub lay_at-next-requires : goal.lay_at-next-requires
lay_at-next-requires c =
    record { there = omega (arith, c.count-i-end.ensures); room = laid-room _ _ _ _ _ _ _ c.requires _ _ _ (omega (arith, c.count-i-end.ensures)) c.loop-i.invariant }

pub loop-i-preserved : goal.loop-i-preserved
loop-i-preserved c =
    laid_next _ _ _ _ _ _ _ c.requires _ _ _ _ _ (omega (arith, c.count-i-end.ensures)) c.loop-i.invariant c.lay_at-next.ensures

pub returns : goal.returns
returns c = laid_end _ _ _ _ _ _ _ c.requires _ _ _ (omega (arith, c.count-i-end.ensures)) c.loop-i.invariant
