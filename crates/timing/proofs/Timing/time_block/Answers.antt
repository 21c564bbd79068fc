-- `timing::Timing::time_block` meets its contract: every turn of its loop takes an event at least. Assumes nothing.
use Rattle.std.proofs.Common.{◌+◌, refl, ◌∙◌, arith, take_all, length-take-le}
use mathlib.Core.Bool.{false≢true}
use Rattle.text.specs.Words.{words_of}
use Rattle.session.proofs.Along.{offered-within}
use Rattle.visits.proofs.Whole.{leaves_none, leaves-count, some-taken, ready-again, leaves-so-far}
use Rattle.timing.proofs.Timing.time_block.Goals as goal

pub loop-from-init : goal.loop-from-init
loop-from-init c =
    record {
      state_long = refl;
      trace_long = refl;
      room = refl;
      within = omega arith;
      ready = c.requires.0.ready;
      so_far = leaves_none _ _ _;
    }

pub take_events-taken-requires : goal.take_events-taken-requires
take_events-taken-requires c =
    let i = c.loop-from.invariant in
    let long = length-take-le c.loop-from.from (words_of c.args.block.now) i.within in
    record { fits = omega (arith, leaves-count i.so_far, c.requires.1.fits) }

pub returns-then-not-print : goal.returns-then-not-print
returns-then-not-print c =
    let l = c.loop-from in
    record {
      all = λ ok. absurd (false≢true ok);
      some = record {
        count = l.from + c.take_events-taken.result.events;
        leaves = leaves-so-far _ _ _ _ _ _ l.invariant.so_far c.take_events-taken.ensures;
      };
    }

pub overflow_add-from : goal.overflow_add-from
overflow_add-from c =
    let a = c.args in
    let l = c.loop-from in
    let within = offered-within a.self.now.table.now l.s l.trace a.block.now l.from in
    omega (arith, c.take_events-taken.ensures.within, c.word_count-total.ensures)

pub loop-from-smaller : goal.loop-from-smaller
loop-from-smaller c =
    let l = c.loop-from in
    let some = some-taken _ _ _ _ _ _ _ _ _ _ _ c.take_events-taken.ensures l.invariant.ready
    (omega (arith, c.word_count-total.ensures)) (omega (arith, c.requires.0.line, l.invariant.room)) in
    omega arith

pub loop-from-preserved : goal.loop-from-preserved
loop-from-preserved c =
    let a = c.args in
    let l = c.loop-from in
    let i = l.invariant in
    let k = c.take_events-taken.auto in
    let p = c.take_events-taken.ensures in
    let within = offered-within a.self.now.table.now l.s l.trace a.block.now l.from in
    record {
      state_long = k.s ∙ i.state_long;
      trace_long = k.trace ∙ i.trace_long;
      room = k.out ∙ i.room;
      within = omega (arith, p.within, i.within);
      ready = ready-again i.ready k.trace p;
      so_far = leaves-so-far _ _ _ _ _ _ i.so_far p;
    }

pub returns : goal.returns
returns c =
    let l = c.loop-from in
    let whole = take_all l.from (words_of c.args.block.now) (omega (arith, c.word_count-total.ensures)) in
    record { all = λ ok. rw whole at l.invariant.so_far; some = record { count = l.from; leaves = l.invariant.so_far } }
