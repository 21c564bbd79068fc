-- `audit::Audit::hold_recording` meets its contract: what is told of our step is followed. Assumes nothing.
use Rattle.std.proofs.Common.{arith, length-take-le}
use Rattle.telling.proofs.Log.{reports-took}
use Rattle.audit.proofs.Held.{held-going, held_one}
use Rattle.audit.proofs.Audit.hold_recording.Goals as goal

pub returns : goal.returns
returns c =
    let a = c.args in
    let g = c.requires.0 in
    let took = reports-took a.self.now.table.words a.s.now a.e c.take-answer.ensures c.number-number.ensures c.count-count.ensures in
    let told = c.tell_step-bytes in
    let long = length-take-le told.result told.new.out (omega (arith, told.ensures.inside, told.auto.out)) in
    (held-going g took told.ensures long c.follow.ensures, held_one g took told.ensures long c.follow.ensures)
