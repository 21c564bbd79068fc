-- `arbitration::run_chosen` meets its contract. Assumes nothing.
use Rattle.std.proofs.Common.{arith}
use Rattle.laws.proofs.Frame.{chosen-framed}
use Rattle.lists.proofs.Along.{along-addable, along-readable}
use Rattle.arbitration.proofs.Picking.{fewer}
use Rattle.arbitration.proofs.Running.{chosen-ran, list-safe, list-next}
use Rattle.arbitration.proofs.run_chosen.Goals as goal

pub run_list-more-requires-clause-safe : goal.run_list-more-requires-clause-safe
run_list-more-requires-clause-safe c =
    list-safe _ _ _ c.in-Some.ensures.1 _ _ _ _ _ _ c.loop-l.invariant _ c.put.ensures c.in-Some.ensures.0 c.requires.safe

pub read_behind-requires : goal.read_behind-requires
read_behind-requires c =
    along-readable _ _ _ _ _ _ _ _
    (list-next _ _ _ c.in-Some.ensures.1 _ _ _ _ _ _ c.loop-l.invariant _ c.put.ensures c.in-Some.ensures.0 c.requires.safe _ _ _ c.run_list-more.ensures)
    (omega arith)

pub plus-written-requires : goal.plus-written-requires
plus-written-requires c =
    rw c.read_behind.ensures
    (along-addable _ _ _ (chosen-framed _ _ _) _ _ _ _ _
    (list-next _ _ _ c.in-Some.ensures.1 _ _ _ _ _ _ c.loop-l.invariant _ c.put.ensures c.in-Some.ensures.0 c.requires.safe _ _ _ c.run_list-more.ensures)
    c.requires.safe (omega arith))

pub loop-l-smaller : goal.loop-l-smaller
loop-l-smaller c = rw c.put.ensures (fewer _ _ _ c.in-Some.ensures.0 (c.in-Some.ensures.1.up c.in-Some.ensures.0))

pub loop-l-preserved : goal.loop-l-preserved
loop-l-preserved c =
    rw (c.plus-written.ensures, c.read_behind.ensures)
    (list-next _ _ _ c.in-Some.ensures.1 _ _ _ _ _ _ c.loop-l.invariant _ c.put.ensures c.in-Some.ensures.0 c.requires.safe _ _ _ c.run_list-more.ensures)

pub returns : goal.returns
returns c = chosen-ran _ _ _ c.in_default.ensures _ _ _ _ _ _ c.loop-l.invariant (omega arith)
