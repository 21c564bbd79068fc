-- `telling::lay_words` meets its contract. The loop's invariant: `LaidOf`. The measure is how many words are left. Assumes nothing.
use lib.ListN.{drop}
use Rattle.telling.specs.Told.{labelled}
use Rattle.telling.proofs.Lines.{LaidOf}
use Rattle.telling.proofs.lay_words.Given as goal

abbrev pub invariant-loop-i : goal.invariant-loop-i
invariant-loop-i l = LaidOf l.label l.words l.initial.out (labelled l.label (drop l.from l.words)) l.at l.next l.out l.i
