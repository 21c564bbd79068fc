-- `arbitration::unmark` meets its contract. The loop's invariant: what the whole walk gives is what the rest of it gives. Assumes nothing.
use Rattle.std.proofs.Common.{◌≡◌, ◌-◌}
use Rattle.rulebook.specs.Words.{each}
use Rattle.rulebook.specs.Arbitration.{unmark_port}
use Rattle.words.specs.Flags.{flagged}
use Rattle.arbitration.proofs.unmark.Given as goal

abbrev pub invariant-loop-p : goal.invariant-loop-p
invariant-loop-p l =
    each 0 l.p-end (unmark_port (flagged l.flags)) l.initial.s ≡ each l.p (l.p-end - l.p) (unmark_port (flagged l.flags)) l.s
