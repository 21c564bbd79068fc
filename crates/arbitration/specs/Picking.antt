-- "larger priority first, then lower number": which of the lists whose flags are up runs next.
use Rattle.std.specs.Prelude.{ℕ, ◌<◌, ◌≡◌, true, cond, ◌&&◌, ◌||◌, ◌⊎◌, List, leb, ltb}
use Rattle.rulebook.specs.Table.{lists, priority}
use Rattle.laws.specs.Sequence.{Before}
use Rattle.words.specs.Flags.{flagged}

-- of list k, whose number is higher, and the best so far, the one that runs before the other
unfoldable pub better : List ℕ → List ℕ → ℕ → ℕ → ℕ
better t flags k best =
    cond (flagged flags k && (leb (lists t) best || ltb (priority t best) (priority t k))) k best

-- l runs before all others of the first n lists whose flags are up; it is no list where there are none
pub record Best (t flags : List ℕ) (n l : ℕ) : Type 0 where
  pub up : l < lists t → flagged flags l ≡ true
  pub below : l < lists t → l < n
  pub first : (k : ℕ) → k < n → flagged flags k ≡ true → (l < lists t) × ((k ≡ l) ⊎ Before t l k)
