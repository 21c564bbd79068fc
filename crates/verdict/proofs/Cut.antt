-- A table file may be cut behind 3,186 words, as the program cuts it: its verdict stays. Assumes nothing.
use Prim.Native.Nat.{ℕ, ◌<◌}
use mathlib.Core.Path.{◌≡◌}
use mathlib.Core.List.{List}
use native.Mathlib.Omega.{arith}
use lib.ListN.{length, take}
use lib.Seq.{take_all}
use Rattle.text.proofs.Digits.{below}
use Rattle.rulebook.specs.Reasons.{accepted}
use Rattle.tables.specs.Finding.{promised}
use Rattle.laws.proofs.Tests.{split}
use Rattle.laws.proofs.Facts.{facts}
use Rattle.session.specs.Printed.{table_words}
use Rattle.session.proofs.Checks.{longest}
use Rattle.session.proofs.Cut.{cut-check}

module _ (t : List ℕ) where
  cut-long : table_words < length t → promised (take table_words t) ≡ promised t
  unfolding promised
  cut-long h =
      let same = cut-check table_words t (omega arith) in
      split (accepted t)
      (λ a. let f = facts t a in let l = longest t f.counts in let e = f.exact in absurd (omega arith))
      (λ a. rw (same, a))

  pub cut-verdict : promised (take table_words t) ≡ promised t
  cut-verdict = below table_words (length t) cut-long (λ h. rw (take_all table_words t h))
