-- `timing::Timing::next_block` meets its contract: the events of a block still have numbers. Assumes nothing.
use Rattle.std.proofs.Common.{arith}
use Rattle.timing.proofs.Kept.{few_words}
use Rattle.timing.proofs.Timing.next_block.Goals as goal

pub time_block-requires : goal.time_block-requires
time_block-requires c =
    let p = c.requires in
    (p.1, record { fits = omega (arith, few_words c.args.n c.args.block.now p.0, p.2.fits) })
