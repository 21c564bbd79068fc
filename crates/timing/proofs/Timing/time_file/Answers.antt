-- `timing::Timing::time_file` meets its contract: what a run gives from the block at hand it gives from the first one. Assumes nothing.
use Rattle.std.proofs.Common.{refl, ap, ◌∙◌, arith}
use mathlib.Core.Bool.{true, false}
use Rattle.std.proofs.lemmas.Result.{err_from_is_err_and}
use Rattle.visits.specs.declared.Most.{Most}
use Rattle.timing.specs.Kept as kept
use Rattle.timing.proofs.Kept.{few_words, took-few, going-after, ran_on, ran-over, ran-left}
use Rattle.timing.proofs.Timing.time_file.Goals as goal

pub loop-init : goal.loop-init
loop-init c =
    let p = c.requires in
    let none = ap (λ (m : Most). m.events) c.nothing-most.ensures in
    record {
      state_long = refl;
      trace_long = refl;
      block_long = refl;
      room = refl;
      loaded = p.0;
      going = p.1;
      few = omega arith;
      so_far = λ whole s' m' r. rw c.nothing-most.ensures at r;
    }

pub returns-then-n-eq0 : goal.returns-then-n-eq0
returns-then-n-eq0 c = let l = c.loop in l.invariant.so_far true _ _ (ran-over _ _ l.block l.most c.if-n-eq0.true)

pub next_block-requires : goal.next_block-requires
next_block-requires c = let i = c.loop.invariant in (i.loaded, i.going, record { fits = omega (arith, i.few) })

pub returns-in_err-turn : goal.returns-in_err-turn
returns-in_err-turn c =
    let p = err_from_is_err_and c.from_residual.result c.from_residual.ensures.1 in
    rw (p.1, p.2) (c.loop.invariant.so_far false _ _ (kept.stopped c.in_err-turn.ensures.some))

pub loop-preserved : goal.loop-preserved
loop-preserved c =
    let l = c.loop in
    let i = l.invariant in
    let k = c.next_block.auto in
    let p = c.in_ok-turn.ensures in
    let leaves = p.0.all refl in
    record {
      state_long = k.s ∙ i.state_long;
      trace_long = k.trace ∙ i.trace_long;
      block_long = k.block ∙ i.block_long;
      room = k.out ∙ i.room;
      loaded = record { bytes = p.1; size = omega (arith, i.loaded.size, k.block) };
      going = going-after _ i.going leaves k.trace k.out;
      few = omega (arith, took-few p.0, few_words l.n l.block i.loaded, i.few);
      so_far = λ whole s' m' r. i.so_far whole s' m' (ran_on leaves r);
    }

pub returns-then-n-eq0-2 : goal.returns-then-n-eq0-2
returns-then-n-eq0-2 c = let l = c.loop in l.invariant.so_far true _ _ (ran-over _ _ l.block l.most c.if-n-eq0-2.true)

pub returns-else-n-eq0-2 : goal.returns-else-n-eq0-2
returns-else-n-eq0-2 c = let l = c.loop in l.invariant.so_far false _ _ (ran-left l.n _ _ l.block l.most)
