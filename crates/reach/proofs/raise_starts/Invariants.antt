-- The loop's invariant: what all rules put up is what is up, or what the rest of them put up.
use Rattle.std.proofs.Common.{◌≡◌, ℕ, ◌-◌, ◌<◌, ◌||◌, length}
use Rattle.rulebook.specs.Words.{any}
use Rattle.rulebook.specs.Table.{rules, no_list}
use Rattle.words.specs.Flags.{flagged}
use Rattle.reach.specs.Raised.{starts_list}
use Rattle.reach.proofs.raise_starts.Given as goal

abbrev pub invariant-loop-r : goal.invariant-loop-r
invariant-loop-r l =
    let t = l.t.words in
    record {
      long : length l.flags ≡ 256;
      says : (k : ℕ) → k < no_list → any 0 (rules t) (starts_list t k) ≡ (flagged l.flags k || any l.r (l.r-end - l.r) (starts_list t k));
    }
