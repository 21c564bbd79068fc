-- `show::follow::lay_left` meets its contract: everything stands, and no panel is longer than the most. Assumes nothing.
use Rattle.std.proofs.Common.{arith}
use Rattle.panel.proofs.Answers.{laid-panel}
use Rattle.show.proofs.Laid.{panel-few}
use Rattle.show.proofs.follow.lay_left.Goals as goal

pub returns : goal.returns
returns c =
    let asked = c.requires in
    let few = panel-few asked in
    let room = asked.room in
    let laid = laid-panel _ _ _ _ _ asked.operator asked.stands (omega arith) c.show-shown.ensures in
    (rw c.bytes.ensures laid, omega (arith, c.bytes.ensures, laid.place))
