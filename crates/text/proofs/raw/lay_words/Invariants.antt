-- The words so far are laid.
use Rattle.std.proofs.Common.{◌*◌, take}
use Rattle.text.specs.Raw.{bytes_in}
use Rattle.text.specs.Puts.{PutAt}
use Rattle.text.proofs.raw.lay_words.Given as goal

abbrev pub invariant-loop-i : goal.invariant-loop-i
invariant-loop-i l = PutAt (bytes_in (take l.i l.words)) l.initial.out 0 (4 * l.i) l.out
