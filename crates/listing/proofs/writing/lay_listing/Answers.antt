-- `listing::writing::lay_listing` meets its contract. The loop's invariant: `LaidTo`. Assumes nothing.
use native.Mathlib.Omega.{arith}
use Rattle.listing.proofs.Lists.{laid-begin, laid-room, laid_next, laid_end}
use Rattle.listing.proofs.writing.lay_listing.Goals as goal

pub loop-i-init : goal.loop-i-init
loop-i-init c = laid-begin _ _

pub lay_line-next-requires : goal.lay_line-next-requires
lay_line-next-requires c =
    (omega arith, laid-room _ _ c.requires.1 _ _ _ c.loop-i.invariant (omega arith))

pub loop-i-preserved : goal.loop-i-preserved
loop-i-preserved c =
    laid_next _ _ c.requires.1 _ _ _ c.loop-i.invariant (omega arith) _ _ c.lay_line-next.ensures

pub returns : goal.returns
returns c =
    laid_end _ _ c.requires.1 _ _ _ c.loop-i.invariant (omega arith)
