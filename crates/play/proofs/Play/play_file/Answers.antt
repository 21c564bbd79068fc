-- `play::Play::play_file` meets its contract. Assumes nothing.
use Rattle.std.proofs.Common.{◌≡◌, ℕ, ◌+◌, sym, refl, ◌∙◌, add-zero, add_assoc, zero-add, arith}
use mathlib.Core.Bool.{true, false}
use Rattle.day.specs.Printed.{in64}
use Rattle.play.proofs.Blocks.{few_words, told-done, ran-end, ran_on, ran-over, ran-left, ran-told, ready-after}
use Rattle.play.proofs.Play.play_file.Goals as goal

later : (v a w : ℕ) → in64 (v + in64 (a + w)) ≡ in64 (in64 (v + a) + w)
later v a w = omega arith

again : (v : ℕ) → in64 (in64 v) ≡ in64 v
again v = omega arith

pub loop-init : goal.loop-init
loop-init c =
    let p = c.requires in
    record {
      state_long = refl;
      trace_long = refl;
      block_long = refl;
      room = refl;
      loaded = p.0;
      ready = p.1;
      few = omega arith;
      so_far = λ over m v k s' r. rw (zero-add m, zero-add v, ran-told r) r;
      visits = refl;
      unended = refl;
    }

pub returns-then-n-eq0 : goal.returns-then-n-eq0
returns-then-n-eq0 c =
    let l = c.loop in
    let i = l.invariant in
    rw i.unended
    (rw (add-zero l.day.taken, add-zero l.day.visits, i.visits) at (i.so_far true _ _ _ _ (ran-over _ _ l.block i.ready.stands c.if-n-eq0.true)))

pub counted-day-requires : goal.counted-day-requires
counted-day-requires c =
    let l = c.loop in
    omega (arith, c.in-Ok.ensures.0.within, few_words l.n l.block l.invariant.loaded, l.invariant.few)

pub counted-requires : goal.counted-requires
counted-requires c =
    let l = c.loop in
    omega (arith, c.in-Err.ensures.within, few_words l.n l.block l.invariant.loaded, l.invariant.few)

pub returns-in-Err : goal.returns-in-Err
returns-in-Err c =
    let e = c.counted.ensures in
    rw (e.taken, e.visits, e.number) (c.loop.invariant.so_far false _ _ _ _ (ran-end c.in-Err.ensures))

pub returns-then-day-ne0 : goal.returns-then-day-ne0
returns-then-day-ne0 c =
    let e = c.counted-day.ensures in
    rw (e.taken, e.visits, e.number) (c.loop.invariant.so_far true _ _ _ _ (ran-end c.in-Ok.ensures.0))

pub loop-preserved : goal.loop-preserved
loop-preserved c =
    let l = c.loop in
    let i = l.invariant in
    let k = c.next_block.auto in
    let p = c.in-Ok.ensures in
    let e = c.counted-day.ensures in
    let told = told-done (sym e.number ∙ c.if-day-ne0.false) (p.0.all refl) in
    record {
      state_long = k.s ∙ i.state_long;
      trace_long = k.trace ∙ i.trace_long;
      block_long = k.block ∙ i.block_long;
      room = k.out ∙ i.room;
      loaded = record { bytes = p.1; size = omega (arith, i.loaded.size, k.block) };
      ready = ready-after i.ready told k.trace k.out;
      few = omega (arith, p.0.within, few_words l.n l.block i.loaded, i.few, e.taken);
      so_far = λ over m v q s' r. rw (e.taken, e.visits, add_assoc, ← later) (i.so_far over _ _ q s' (ran_on told r));
      visits = rw e.visits (again _);
      unended = c.if-day-ne0.false;
    }

pub returns-then-n-eq0-2 : goal.returns-then-n-eq0-2
returns-then-n-eq0-2 c =
    let l = c.loop in
    let i = l.invariant in
    rw i.unended
    (rw (add-zero l.day.taken, add-zero l.day.visits, i.visits) at (i.so_far true _ _ _ _ (ran-over _ _ l.block i.ready.stands c.if-n-eq0-2.true)))

pub returns-else-n-eq0-2 : goal.returns-else-n-eq0-2
returns-else-n-eq0-2 c =
    let l = c.loop in
    let i = l.invariant in
    rw i.unended
    (rw (add-zero l.day.taken, add-zero l.day.visits, i.visits) at (i.so_far false _ _ _ _ (ran-left l.n _ _ l.block i.ready.stands)))
