-- `arbitration::store` meets its contract. Assumes nothing.
use Rattle.std.proofs.Common.{sym, ◌∙◌}
use Rattle.walks.proofs.Walks.{each_turn, each-end}
use Rattle.arbitration.specs.Results.{store_by}
use Rattle.arbitration.proofs.store.Goals as goal

pub loop-r-preserved : goal.loop-r-preserved
loop-r-preserved c =
    rw c.store_result.ensures (c.loop-r.invariant ∙ each_turn _ _ (store_by c.args.t.now.words c.args.results.now) _ c.loop-r-test.true)

pub returns : goal.returns
returns c =
    rw (← c.rules-r-end.ensures.value)
    (sym (c.loop-r.invariant ∙ each-end _ _ (store_by c.args.t.now.words c.args.results.now) _ c.loop-r-test.false))
