-- Laying the i digits that are left gives what laying all k gives.
use Rattle.std.proofs.Common.{◌≡◌}
use Rattle.text.specs.Lines.{digits}
use Rattle.text.specs.Puts.{lay}
use Rattle.text.proofs.output.put_digits.Given as goal

abbrev pub invariant-loop-i : goal.invariant-loop-i
invariant-loop-i l = lay l.out l.at (digits l.base l.i l.rest) ≡ lay l.initial.out l.at (digits l.base l.k l.n)
