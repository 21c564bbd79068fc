-- `arbitration::find_results` meets its contract. Assumes nothing.
use Rattle.std.proofs.Common.{◌≡◌, arith}
use lib.ListN.{length-set}
use Rattle.words.specs.Flags.{flagged}
use Rattle.words.proofs.Fill.{set_more}
use Rattle.laws.proofs.Visits.{rule_visits-most}
use Rattle.arbitration.specs.Results.{rule_result}
use Rattle.arbitration.proofs.Passes.{counted_none, counted-more, counted-all}
use Rattle.arbitration.proofs.find_results.Goals as goal

pub loop-r-init : goal.loop-r-init
loop-r-init c = record { long = c.requires.long; found = λ k h. absurd (omega arith); counted = counted_none _ _ _ }

pub overflow_add-visits : goal.overflow_add-visits
overflow_add-visits c =
    let counted = counted-more c.args.t.now.words (flagged c.args.flags.now) c.args.s.now c.loop-r.r c.loop-r.visits c.loop-r.invariant.counted
    c.rule_result-found.result.visits (omega (arith, c.loop-r-test.true, c.rules-r-end.ensures.value)) c.rule_result-found.ensures.visits in
    omega (arith, counted, rule_visits-most c.args.t.now.words (flagged c.args.flags.now) c.args.s.now, c.requires.few)

pub loop-r-preserved : goal.loop-r-preserved
loop-r-preserved c = record {
  long = rw c.put.ensures (simp length-set c.loop-r.invariant.long);
  found = rw c.put.ensures
      (set_more (λ k w. w ≡ rule_result c.args.t.now.words (flagged c.args.flags.now) c.args.s.now k) c.loop-r.results c.loop-r.r
      c.rule_result-found.result.result
      (omega (arith, c.loop-r-test.true, c.requires.few, c.rules-r-end.ensures.value, c.loop-r.invariant.long))
      c.rule_result-found.ensures.result c.loop-r.invariant.found);
  counted = counted-more _ _ _ _ _ c.loop-r.invariant.counted _ (omega (arith, c.loop-r-test.true, c.rules-r-end.ensures.value))
      c.rule_result-found.ensures.visits;
}

pub returns-clause-value : goal.returns-clause-value
returns-clause-value c =
    counted-all _ _ _ _ _ c.loop-r.invariant.counted (omega (arith, c.loop-r-test.false, c.rules-r-end.ensures.value))
