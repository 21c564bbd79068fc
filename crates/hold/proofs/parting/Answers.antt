-- `hold::parting` meets its contract. Assumes nothing.
use Rattle.std.proofs.Common.{refl, arith, ◌≡◌, length}
use Rattle.hold.proofs.Along.{along-begin, ours-end, differs, agrees}
use Rattle.hold.proofs.parting.Goals as goal

pub loop-k-init : goal.loop-k-init
loop-k-init c = along-begin _ _

pub returns-then-ne : goal.returns-then-ne
returns-then-ne c =
    let h = c.get.ensures.lookup in
    differs _ _ _ c.loop-k.invariant (omega arith) _ refl c.get.result h.1 h.3 c.if-ne.ensures

pub loop-k-preserved : goal.loop-k-preserved
loop-k-preserved c =
    let h = c.get.ensures.lookup in
    agrees _ _ _ c.loop-k.invariant (omega arith) _ refl c.get.result h.1 h.3 c.if-ne.ensures

pub returns : goal.returns
returns c =
    let l = c.loop-k in
    let all : l.k ≡ length c.args.ours.now = omega arith in
    rw all at (ours-end c.args.ours.now c.args.theirs.now l.k l.invariant (omega arith))
