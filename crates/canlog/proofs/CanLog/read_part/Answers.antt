-- `canlog::CanLog::read_part` meets its contract. Assumes nothing.
use Rattle.std.proofs.Common.{sym, refl, ◌∙◌, arith, eqb-true, length-drop}
use lib.Seq.{drop-drop}
use borrow.Author.Rules.{part_to_end}
use Rattle.buslog.specs.Promises.{cursor_as}
use Rattle.canlog.proofs.Reading.{read-full, read_whole, ends-whole, reads-from}
use Rattle.canlog.proofs.CanLog.read_part.Goals as goal

pub loop-init : goal.loop-init
loop-init c = record { out_long = refl; raw_long = refl; within = omega arith; so_far = λ c' h. h }

pub returns-then-not-is_full : goal.returns-then-not-is_full
returns-then-not-is_full c =
    let a = c.args in
    let v = a.self.now in
    let r = c.end_part.result in
    let read = rw (part_to_end a.log.now c.loop.at) at c.read_log-step.ensures in
    reads-from v.table.now v.names.now _ a.log.now (cursor_as c.loop.cursor) (cursor_as a.from) r c.loop.invariant.so_far
    (ends-whole _ _ _ _ c.read_log-step.result r c.end_part.ensures (read_whole read))

pub loop-preserved : goal.loop-preserved
loop-preserved c =
    let l = c.loop in
    let i = l.invariant in
    let log = c.args.log.now in
    let step = c.read_log-step.result in
    let read = rw (part_to_end log l.at) at c.read_log-step.ensures in
    let full = eqb-true _ _ (sym c.is_full.ensures ∙ c.if-not-is_full.false) in
    record {
      out_long = c.read_log-step.auto.out ∙ i.out_long;
      raw_long = c.print_events.auto.raw ∙ i.raw_long;
      within = omega (arith, read.bytes, length-drop l.at log, i.within);
      so_far = λ c' h. i.so_far c' (read-full read full (rw (← drop-drop step.bytes l.at log) at h));
    }
