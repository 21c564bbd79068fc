-- `arbitration::find_results` meets its contract. The loop's invariant: the results of the rules passed are right, and all visits
-- are those counted and those of the rest. Assumes nothing.
use Rattle.std.proofs.Common.{◌≡◌, ℕ, ◌+◌, ◌-◌, ◌<◌, length}
use Rattle.rulebook.specs.Words.{word, sum}
use Rattle.rulebook.specs.Table.{rules}
use Rattle.rulebook.specs.Arbitration.{visits_by, rule_visits}
use Rattle.words.specs.Flags.{flagged}
use Rattle.arbitration.specs.Results.{rule_result}
use Rattle.arbitration.proofs.find_results.Given as goal

abbrev pub invariant-loop-r : goal.invariant-loop-r
invariant-loop-r l = record {
  long : length l.results ≡ 256;
  found : (k : ℕ) → k < l.r → word l.results k ≡ rule_result l.t.words (flagged l.flags) l.s k;
  counted : rule_visits l.t.words (flagged l.flags) l.s ≡ l.visits + sum l.r (rules l.t.words - l.r) (visits_by l.t.words (flagged l.flags) l.s);
}
