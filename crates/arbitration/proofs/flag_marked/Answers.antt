-- `arbitration::flag_marked` meets its contract. Assumes nothing.
use Rattle.std.proofs.Common.{arith, ◌∙◌}
use Rattle.arbitration.proofs.Marks.{marked_start, marked_more, flag-of, all-marked}
use Rattle.arbitration.proofs.flag_marked.Goals as goal

pub loop-p-init : goal.loop-p-init
loop-p-init c = rw c.requires (marked_start c.args.t.now.words c.args.s.now)

pub loop-p-preserved : goal.loop-p-preserved
loop-p-preserved c =
    rw c.put.ensures
    (marked_more _ _ _ _ _ _ (omega (arith, c.loop-p-test.true, c.ports-p-end.ensures.small)) c.loop-p.invariant
    (c.from.ensures ∙ flag-of c.is_marked.result)
    c.is_marked.ensures)

pub returns : goal.returns
returns c = all-marked _ _ _ _ (omega (arith, c.loop-p-test.false, c.ports-p-end.ensures.value)) c.loop-p.invariant
