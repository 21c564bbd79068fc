-- The loop's invariant: the lists passed have their depths, and if none was found all are as before.
use Rattle.std.proofs.Common.{◌≡◌, ℕ, ◌≤◌, false}
use Rattle.rulebook.specs.Words.{word}
use Rattle.nesting.proofs.Levels.{Passed}
use Rattle.nesting.proofs.find_level.Given as goal

abbrev pub invariant-loop-l : goal.invariant-loop-l
invariant-loop-l l = record {
  passed : Passed l.d l.l l.t.words l.depths;
  none : l.more ≡ false → (k : ℕ) → word l.depths k ≤ l.d;
}
