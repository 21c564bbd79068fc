-- `arbitration::choose` meets its contract. The loop's invariant: what all rules choose is what those passed choose, or the rest. Assumes nothing.
use Rattle.std.proofs.Common.{◌≡◌, ℕ, ◌-◌, length}
use mathlib.Core.Bool.{◌||◌}
use Rattle.rulebook.specs.Words.{any}
use Rattle.rulebook.specs.Table.{rules}
use Rattle.words.specs.Flags.{flagged}
use Rattle.arbitration.specs.Results.{chooses_by}
use Rattle.arbitration.proofs.choose.Given as goal

abbrev pub invariant-loop-r : goal.invariant-loop-r
invariant-loop-r l = record {
  long : length l.flags ≡ 256;
  says : (k : ℕ) → let p = chooses_by l.t.words l.results l.s k in any 0 (rules l.t.words) p ≡ (flagged l.flags k || any l.r (rules l.t.words - l.r) p);
}
