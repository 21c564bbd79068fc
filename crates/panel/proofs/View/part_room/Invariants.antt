-- What is left of the room and the part's lines are the room and the lines to come.
use Rattle.panel.specs.Inside.{part_number}
use Rattle.panel.proofs.Along.{LeftOf}
use Rattle.panel.proofs.View.part_room.Given as goal

abbrev pub invariant-loop-i : goal.invariant-loop-i
invariant-loop-i l = LeftOf (part_number l.part) l.self.operator l.self.table.now l.self.state.now l.self.words.now l.room l.left l.i
