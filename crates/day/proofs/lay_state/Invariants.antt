-- `day::lay_state` meets its promise. The loop's invariant: what `Along` says of the lines of the first i words. The measure is how many
-- are left. Assumes nothing.
use Prim.Native.Nat.{◌-◌, ◌≤◌}
use mathlib.Core.Path.{◌≡◌, sym, ◌∙◌}
use native.Mathlib.Omega.{arith}
use borrow.Author.Rules.{rules}
use lib.ListN.{length}
use Rattle.session.proofs.Lines.{unlaid}
use Rattle.day.specs.Promises.{most_state}
use Rattle.day.proofs.State.{Along, begin, next, end, nothing-shown, other_length, too_many}
use Rattle.day.proofs.lay_state.Given as goal

abbrev pub invariant-loop-i : goal.invariant-loop-i
invariant-loop-i l = (l.i ≤ l.words) × Along l.t l.s l.initial.out l.i l.at l.out
