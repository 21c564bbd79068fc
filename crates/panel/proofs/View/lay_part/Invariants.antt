-- With the lines to come laid behind those that are laid they are all of the part's.
use Rattle.panel.specs.Inside.{part_number}
use Rattle.panel.proofs.Along.{LaidOf}
use Rattle.panel.proofs.View.lay_part.Given as goal

abbrev pub invariant-loop-i : goal.invariant-loop-i
invariant-loop-i l =
    LaidOf (part_number l.part) l.self.operator l.self.table.now l.self.state.now l.self.words.now l.initial.out l.at l.next l.out l.i
