-- `run::Run::run_block` meets its contract: every turn of its loop takes an event at least. Assumes nothing.
use Rattle.std.proofs.Common.{◌+◌, refl, ap, ◌∙◌, arith, take_all}
use mathlib.Core.Bool.{false≢true}
use Rattle.text.specs.Words.{words_of}
use Rattle.session.specs.Printed.{state_after}
use Rattle.session.proofs.Along.{offered-within}
use Rattle.session.proofs.Whole.{some-taken, ready-again, state-so-far}
use Rattle.run.proofs.Run.run_block.Goals as goal

pub loop-from-init : goal.loop-from-init
unfolding state_after
loop-from-init c = record { state_long = refl; trace_long = refl; room = refl; ready = c.requires.0; so_far = refl }

pub returns-then-not-print : goal.returns-then-not-print
returns-then-not-print c =
    let l = c.loop-from in
    record {
      all = λ ok. absurd (false≢true ok);
      some = record {
        count = l.from + c.take_events-taken.result.events;
        state = state-so-far _ _ _ _ _ _ l.invariant.so_far c.take_events-taken.ensures;
      };
    }

pub overflow_add-from : goal.overflow_add-from
overflow_add-from c =
    let a = c.args in
    let l = c.loop-from in
    let within = offered-within a.self.now.table.now l.s l.trace a.block.now l.from in
    omega (arith, c.take_events-taken.ensures.within, c.word_count-total.ensures)

pub loop-from-smaller : goal.loop-from-smaller
loop-from-smaller c =
    let l = c.loop-from in
    let some = some-taken _ _ _ _ _ _ _ _ _ _ c.take_events-taken.ensures l.invariant.ready
    (omega (arith, c.word_count-total.ensures)) (omega (arith, c.requires.1, l.invariant.room)) in
    omega arith

pub loop-from-preserved : goal.loop-from-preserved
loop-from-preserved c =
    let i = c.loop-from.invariant in
    let k = c.take_events-taken.auto in
    let p = c.take_events-taken.ensures in
    record {
      state_long = k.s ∙ i.state_long;
      trace_long = k.trace ∙ i.trace_long;
      room = k.out ∙ i.room;
      ready = ready-again i.ready k.trace p;
      so_far = state-so-far _ _ _ _ _ _ i.so_far p;
    }

pub returns : goal.returns
returns c =
    let l = c.loop-from in
    let whole = take_all l.from (words_of c.args.block.now) (omega (arith, c.word_count-total.ensures)) in
    record { all = λ ok. l.invariant.so_far ∙ ap (state_after _ _) whole; some = record { count = l.from; state = l.invariant.so_far } }
