-- `arbitration::choose` meets its contract. Assumes nothing.
use Rattle.std.proofs.Common.{arith, length, ap, ◌∙◌}
use Rattle.arbitration.proofs.Passes.{chose_none, chose-more, chose-all}
use Rattle.arbitration.proofs.choose.Goals as goal

pub loop-r-init : goal.loop-r-init
loop-r-init c = record { long = ap length c.requires; says = λ k. rw c.requires (chose_none _ _ _ _ k) }

pub loop-r-preserved : goal.loop-r-preserved
loop-r-preserved c = record {
  long = c.put.auto.ws ∙ c.loop-r.invariant.long;
  says = λ k. rw c.put.ensures
      (chose-more _ _ _ _ _ _ c.loop-r.invariant.long c.pick.ensures _ k
      (omega (arith, c.loop-r-test.true, c.rules-r-end.ensures.value)) (c.loop-r.invariant.says k));
}

pub returns : goal.returns
returns c =
    chose-all _ _ _ _ _ c.loop-r.invariant.long (omega (arith, c.loop-r-test.false, c.rules-r-end.ensures.value))
    c.loop-r.invariant.says
