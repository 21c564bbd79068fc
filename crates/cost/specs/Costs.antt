-- The costs of lists, as they are found by rising depth: a word for each list, held at 4,097, one above the limit.
use Rattle.std.specs.Prelude.{ℕ, ◌+◌, ◌<◌, min, ◌≡◌, true, cond, List, eqb, length}
use Rattle.rulebook.specs.Words.{word}
use Rattle.rulebook.specs.Expressions.{deepest}
use Rattle.rulebook.specs.Reasons.{list_within, list_cost, cost_within}
use Rattle.laws.specs.Facts.{Nested}
use Rattle.nesting.specs.Depths.{Searched}

abbrev pub capped : ℕ → ℕ
capped n = min 4097 n

-- the cost of list l by an array of costs
unfoldable pub cost_in : List ℕ → ℕ → ℕ
cost_in costs l = capped (word costs l)

-- the word of list l after the round of depth d + 1
unfoldable pub next_cost : List ℕ → List ℕ → List ℕ → ℕ → ℕ → ℕ
next_cost t depths costs d l = cond (eqb (word depths l) (d + 1)) (capped (list_cost t (cost_in costs) l)) (word costs l)

-- the words of the lists that are at most d deep are their costs
pub record Costs (d : ℕ) (t costs : List ℕ) : Type 0 where
  pub long : length costs ≡ 256
  pub says : (l : ℕ) → list_within d t l ≡ true → word costs l ≡ capped (cost_within deepest t l)

-- a table with the depths of its lists, and the costs of those that are at most d deep
pub record Costed (d : ℕ) (t depths costs : List ℕ) : Type 0 where
  pub searched : Searched deepest t depths
  pub found : Costs d t costs

-- the same, where a round is still to come
pub record NextCosts (d : ℕ) (t depths costs : List ℕ) : Type 0 where
  pub costed : Costed d t depths costs
  pub shallow : d < 7

-- a table whose lists keep rule 7, with their depths
pub record Kept (t depths : List ℕ) : Type 0 where
  pub searched : Searched deepest t depths
  pub nested : Nested t
