-- The lines of the words so far stand from `at` on, nine bytes each.
use Rattle.std.proofs.Common.{◌≡◌, ◌+◌, ◌*◌, take}
use Rattle.text.specs.Lines.{hex_lines}
use Rattle.text.specs.Puts.{lay}
use Rattle.text.proofs.output.put_words.Given as goal

abbrev pub invariant-loop-word : goal.invariant-loop-word
invariant-loop-word l = record {
  place : l.next ≡ l.at + 9 * l.word-index;
  bytes : l.out ≡ lay l.initial.out l.at (hex_lines (take l.word-index l.word-items));
}
