-- `run::Run::run` meets its contract: what a run gives from the block at hand it gives from the first one. Assumes nothing.
use Rattle.std.proofs.Common.{refl, sym, ◌∙◌}
use mathlib.Core.Bool.{true, false}
use Rattle.session.proofs.Whole.{ready-after}
use Rattle.run.specs.Kept as kept
use Rattle.run.proofs.Kept.{ran_on, ran-none, ran_end}
use Rattle.run.proofs.Run.run.Goals as goal

pub loop-init : goal.loop-init
loop-init c =
    let p = c.requires in
    record {
      state_long = refl;
      trace_long = refl;
      block_long = refl;
      room = c.lines-out.ensures;
      bytes = p.0;
      ready = p.1;
      so_far = λ whole s' r. r;
    }

pub returns-then-n-eq0 : goal.returns-then-n-eq0
returns-then-n-eq0 c = c.loop.invariant.so_far true _ (ran_end _ _ _ c.if-n-eq0.true)

pub returns-in_default : goal.returns-in_default
returns-in_default c = c.loop.invariant.so_far false _ (kept.stopped c.in_default.ensures.some)

pub loop-preserved : goal.loop-preserved
loop-preserved c =
    let i = c.loop.invariant in
    let k = c.next_block.auto in
    let p = c.in-Some.ensures in
    record {
      state_long = k.s ∙ i.state_long;
      trace_long = k.trace ∙ i.trace_long;
      block_long = k.block ∙ i.block_long;
      room = i.room ∙ sym k.out;
      bytes = p.1;
      ready = ready-after _ i.ready k.trace p.0.some.state;
      so_far = λ whole s' r. i.so_far whole s' (ran_on (p.0.all refl) r);
    }

pub returns : goal.returns
returns c = c.loop.invariant.so_far _ _ (ran-none _ _ c.loop.block c.loop.n)
