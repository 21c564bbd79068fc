-- A table file may be cut behind 3,186 words, as the program cuts it: what is printed stays. Assumes nothing.
use Prim.Native.Nat.{ℕ, ◌*◌}
use mathlib.Core.Path.{◌≡◌}
use mathlib.Core.List.{List}
use native.Mathlib.Omega.{arith}
use lib.ListN.{length, take}
use lib.Seq.{take_all}
use Rattle.text.specs.Words.{words_of}
use Rattle.text.proofs.Digits.{below}
use Rattle.session.specs.Printed.{table_words}
use Rattle.session.proofs.Cut.{cut-check, long-refused, words_take}
use Rattle.visits.specs.Printed.{cost_printed}

pub cut-cost : (table events : List ℕ) → cost_printed (take (4 * table_words) table) events ≡ cost_printed table events
unfolding cost_printed
cut-cost table events =
    rw (words_take table_words table)
    (below table_words (length (words_of table))
    (λ b.
    let no = long-refused table_words (words_of table) (omega arith) b in
    let same = cut-check table_words (words_of table) (omega arith) in
    rw (same, no))
    (λ b. rw (take_all table_words (words_of table) b)))
