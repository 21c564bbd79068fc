-- `things::tick_things` meets its contract: the three walks one after the other. Assumes nothing.
use Rattle.std.proofs.Common.{◌∙◌}
use Rattle.rulebook.specs.Events.{tick_network, tick_source, tick_timer, tick_things}
use Rattle.walks.proofs.Walks.{each_turn, each-end}
use Rattle.things.proofs.tick_things.Goals as goal

pub loop-n-preserved : goal.loop-n-preserved
loop-n-preserved c = rw c.tick_network.ensures (c.loop-n.invariant ∙ each_turn _ _ (tick_network c.args.t.now.words) _ c.loop-n-test.true)

pub loop-k-preserved : goal.loop-k-preserved
loop-k-preserved c = rw c.tick_source.ensures (c.loop-k.invariant ∙ each_turn _ _ (tick_source c.args.t.now.words) _ c.loop-k-test.true)

pub loop-p-preserved : goal.loop-p-preserved
loop-p-preserved c = rw c.tick_timer.ensures (c.loop-p.invariant ∙ each_turn _ _ (tick_timer c.args.t.now.words) _ c.loop-p-test.true)

pub returns : goal.returns
unfolding tick_things
returns c =
    let t = c.args.t.now.words in
    let networks = c.loop-n.invariant ∙ each-end _ _ (tick_network t) _ c.loop-n-test.false in
    let sources = c.loop-k.invariant ∙ each-end _ _ (tick_source t) _ c.loop-k-test.false in
    let timers = c.loop-p.invariant ∙ each-end _ _ (tick_timer t) _ c.loop-p-test.false in
    rw (
      ← c.networks-n-end.ensures.value,
      ← c.sources-k-end.ensures.value,
      ← c.ports-p-end.ensures.value,
      networks,
      sources,
      timers,
    )
