-- The first n words stand in front, and those left are counted on from the place behind them, which is inside.
use Rattle.std.proofs.Common.{◌≡◌, ◌≤◌, ◌+◌, ◌*◌, ◌-◌, ◌++◌, length, drop}
use Rattle.recording.specs.Log.{word_count, words_from}
use Rattle.recording.proofs.read_words.Given as goal

abbrev pub invariant-loop-n : goal.invariant-loop-n
invariant-loop-n l = record {
  inside : l.at + 9 * l.n ≤ length l.bytes;
  count : word_count (length l.initial.words) l.bytes l.at ≡ l.n + word_count (length l.initial.words - l.n) l.bytes (l.at + 9 * l.n);
  words : l.words ≡ words_from l.n l.bytes l.at ++ drop l.n l.initial.words;
}
