-- `show::Watch::watch_file` meets its contract: what a run gives from the block at hand it gives from the first one. Assumes nothing.
use Rattle.std.proofs.Common.{refl, ◌∙◌}
use mathlib.Core.Bool.{true, false}
use Rattle.std.proofs.lemmas.Result.{err_from_is_err_and}
use Rattle.show.proofs.Kept.{some_of, ran_on, ran-over, ran-left}
use Rattle.show.proofs.Watch.watch_file.Goals as goal

pub loop-init : goal.loop-init
loop-init c =
    let p = c.requires in
    record {
      state_long = refl;
      trace_long = refl;
      block_long = refl;
      found_long = refl;
      out_long = refl;
      bytes = p.0;
      going = p.1;
      so_far = λ whole s' trace' m r. r;
    }

pub returns-then-n-eq0 : goal.returns-then-n-eq0
returns-then-n-eq0 c =
    let l = c.loop in
    let i = l.invariant in
    record { going = i.going; ran = i.so_far true _ _ _ (ran-over _ _ l.trace l.block l.seen.count c.if-n-eq0.true) }

pub returns-in_err-turn : goal.returns-in_err-turn
returns-in_err-turn c =
    let p = err_from_is_err_and c.from_residual.result c.from_residual.ensures.1 in
    let took = c.in_err-turn.ensures in
    rw (p.1, p.2) (record { going = took.next; ran = c.loop.invariant.so_far false _ _ _ (some_of took.some) })

pub loop-preserved : goal.loop-preserved
loop-preserved c =
    let i = c.loop.invariant in
    let k = c.next_block.auto in
    let p = c.in_ok-turn.ensures in
    record {
      state_long = k.s ∙ i.state_long;
      trace_long = k.trace ∙ i.trace_long;
      block_long = k.block ∙ i.block_long;
      found_long = k.found ∙ i.found_long;
      out_long = k.out ∙ i.out_long;
      bytes = p.1;
      going = p.0.next;
      so_far = λ whole s' trace' m r. i.so_far whole s' trace' m (ran_on (p.0.all refl) r);
    }

pub returns-then-n-eq0-2 : goal.returns-then-n-eq0-2
returns-then-n-eq0-2 c =
    let l = c.loop in
    let i = l.invariant in
    record { going = i.going; ran = i.so_far true _ _ _ (ran-over _ _ l.trace l.block l.seen.count c.if-n-eq0-2.true) }

pub returns-else-n-eq0-2 : goal.returns-else-n-eq0-2
returns-else-n-eq0-2 c =
    let l = c.loop in
    let i = l.invariant in
    record { going = i.going; ran = i.so_far false _ _ _ (ran-left l.n _ _ l.trace l.block l.seen.count) }
