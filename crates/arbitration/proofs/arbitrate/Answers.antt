-- `arbitration::arbitrate` meets its contract: the passes make up the arbitration. Assumes nothing.
use Rattle.lists.proofs.Cycle.{safe-as, ran-as}
use Rattle.arbitration.proofs.Passes.{arbitrated}
use Rattle.arbitration.proofs.arbitrate.Goals as goal

pub run_chosen-requires : goal.run_chosen-requires
run_chosen-requires c = record {
  bounded = c.requires.bounded;
  safe = safe-as _ _ _ (arbitrated _ _ _ _ c.find_results-visits.ensures.results _ _ _ _ _
      c.unmark.ensures c.choose.ensures c.store.ensures c.find_results-visits.ensures.value)
      c.requires.safe;
}

pub returns : goal.returns
returns c =
    ran-as _ _ _ _ _ _ _ (arbitrated _ _ _ _ c.find_results-visits.ensures.results _ _ _ _ _
    c.unmark.ensures c.choose.ensures c.store.ensures c.find_results-visits.ensures.value)
    c.run_chosen.ensures
