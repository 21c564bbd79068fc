-- The first i words stand in front, and the rest is as it was.
use Rattle.std.proofs.Common.{◌≡◌, ◌++◌, take, drop}
use Rattle.text.specs.Words.{words_of}
use Rattle.text.proofs.input.read_words.Given as goal

abbrev pub invariant-loop-i : goal.invariant-loop-i
invariant-loop-i l = l.word-items ≡ take l.i (words_of l.bytes) ++ drop l.i l.initial.word-items
