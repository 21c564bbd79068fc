-- A scan of the table for the lowest word that breaks a rule, in the form of a loop: r is what the word at place i was judged to be.
-- Assumes nothing.
use Prim.Native.Nat.{ℕ, ◌+◌, ◌-◌, ◌<◌}
use mathlib.Core.Path.{◌≡◌, sym, ap, ◌∙◌}
use mathlib.Core.Bool.{Bool, true, false, not}
use mathlib.Core.List.{List}
use Rattle.rulebook.specs.Words.{first}
use Rattle.rulebook.specs.Table.{Part, part}
use lib.ListN.{length}
use native.Mathlib.Nat.{sub-zero}
use Rattle.rulebook.specs.Reasons.{breaks, lowest}
use Rattle.walks.proofs.Walks.{first-here, first-turn}

module _ (rule : List ℕ → Part → Bool) (t : List ℕ) (i e : ℕ) (r : Bool) (inside : i < e) (judged : r ≡ rule t (part t i)) where
  broken : breaks rule t i ≡ not r
  unfolding breaks
  broken = ap not (sym judged)

  pub scan-here : r ≡ false → first i (e - i) (breaks rule t) ≡ i
  scan-here bad = first-here i e (breaks rule t) inside (broken ∙ ap not bad)

  pub scan-turn : r ≡ true → first i (e - i) (breaks rule t) ≡ first (i + 1) (e - (i + 1)) (breaks rule t)
  scan-turn good = first-turn i e (breaks rule t) inside (broken ∙ ap not good)

-- the scan of the whole table, which is n long, where the loop begins
pub scan-start : (rule : List ℕ → Part → Bool) (t : List ℕ) (n : ℕ) → length t ≡ n → lowest rule t ≡ first 0 (n - 0) (breaks rule t)
unfolding lowest
scan-start rule t n h = rw (h, sub-zero)
