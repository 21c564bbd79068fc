-- `play::Play::play_events` meets its contract and ends: a part that is full has taken an event. Assumes nothing.
use Rattle.std.proofs.Common.{◌+◌, refl, ◌∙◌, arith}
use mathlib.Core.Bool.{false≢true}
use borrow.Author.Rules.{part_to_end}
use Rattle.play.proofs.Parts.{told_none, all-some, parts-took, parts_whole, parts_within, ready-again, full-took}
use Rattle.play.proofs.Play.play_events.Goals as goal

pub loop-part-init : goal.loop-part-init
loop-part-init c =
    record {
      state_long = refl;
      trace_long = refl;
      room = refl;
      within = omega arith;
      ready = c.requires;
      so_far = told_none _ _ c.requires.stands;
    }

pub slice_bounds-play_part-start : goal.slice_bounds-play_part-start
slice_bounds-play_part-start c = c.loop-part.invariant.within

pub overflow_add-taken : goal.overflow_add-taken
overflow_add-taken c =
    let l = c.loop-part in
    let within = parts_within _ _ c.args.es.now l.taken l.visits (part_to_end c.args.es.now l.taken) l.invariant.so_far c.play_part-part.ensures l.invariant.within in
    omega arith

pub returns-then-not-print : goal.returns-then-not-print
returns-then-not-print c =
    let l = c.loop-part in
    let p = c.play_part-part.ensures in
    let to_end = part_to_end c.args.es.now l.taken in
    record {
      all = λ ok. absurd (false≢true ok);
      some = record {
        count = l.taken + c.play_part-part.result.taken;
        told = parts-took _ _ _ _ _ to_end l.invariant.so_far p l.invariant.ready.stands;
      };
      within = parts_within _ _ _ _ _ to_end l.invariant.so_far p l.invariant.within;
    }

pub returns-then-part-ne-TRACE_FULL : goal.returns-then-part-ne-TRACE_FULL
returns-then-part-ne-TRACE_FULL c =
    let l = c.loop-part in
    let p = c.play_part-part.ensures in
    let to_end = part_to_end c.args.es.now l.taken in
    let told = parts_whole _ _ c.args.es.now l.taken l.visits to_end l.invariant.so_far p c.if-part-ne-TRACE_FULL.true in
    record {
      all = λ ok. told;
      some = all-some told;
      within = parts_within _ _ _ _ _ to_end l.invariant.so_far p l.invariant.within;
    }

pub loop-part-smaller : goal.loop-part-smaller
loop-part-smaller c =
    let l = c.loop-part in
    let some = full-took _ l.invariant.ready c.play_part-part.ensures c.if-part-ne-TRACE_FULL.false in
    let within = parts_within _ _ c.args.es.now l.taken l.visits (part_to_end c.args.es.now l.taken) l.invariant.so_far c.play_part-part.ensures l.invariant.within in
    omega arith

pub loop-part-preserved : goal.loop-part-preserved
loop-part-preserved c =
    let i = c.loop-part.invariant in
    let k = c.play_part-part.auto in
    let p = c.play_part-part.ensures in
    let to_end = part_to_end c.args.es.now c.loop-part.taken in
    record {
      state_long = k.s ∙ i.state_long;
      trace_long = k.trace ∙ i.trace_long;
      room = k.out ∙ i.room;
      within = parts_within _ _ _ _ _ to_end i.so_far p i.within;
      ready = ready-again _ i.ready p k.trace k.out;
      so_far = parts-took _ _ _ _ _ to_end i.so_far p i.ready.stands;
    }
