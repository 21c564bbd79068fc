-- Q-6, lists that nothing starts: "Refuse a table in which a list is reached by no rule that isn't nested-only, whether directly, by a named
-- list, or by a rule item."
use Rattle.std.specs.Prelude.{◌≡◌, ◌⊎◌, List, ℕ, ◌+◌, ◌≤◌, ◌<◌}
use Rattle.rulebook.specs.Table.{rules, lists, lists_from, nested_only}
use Rattle.rulebook.specs.Reasons.{owners}
use Rattle.laws.specs.Acceptance.{Everywhere}
use Rattle.laws.specs.Sequence.{RuleNames, NamesList}

-- list l is reached: a chain of names leads to it from such a rule
pub data Reached (t : List ℕ) : ℕ → Type 0 where
  by_rule : {l : ℕ} (r : ℕ) → r < rules t → nested_only t r ≡ 0 → RuleNames t r l → Reached t l
  by_list : {l x : ℕ} → Reached t l → NamesList t l x → Reached t x

abbrev pub Unreached : List ℕ → ℕ → Type 0
Unreached t l = (l < lists t) × (Reached t l → ⊥)

-- "placed at the lowest such list word"
pub record LowestUnreached (t : List ℕ) (place : ℕ) : Type 0 where
  pub list : ℕ
  pub unreached : Unreached t list
  pub at : place ≡ lists_from t + list
  pub lower : (k : ℕ) → k < list → Reached t k

-- what a table check says of them by its reason and place
pub record ListsStarted (t : List ℕ) (reason place : ℕ) : Type 0 where
  -- "Refuse a table": by reason 10, or by one that stands before it; never by 9
  pub refused : (l : ℕ) → Unreached t l → (reason ≡ 10) ⊎ ((1 ≤ reason) × (reason ≤ 8))
  -- "It is reason 10, placed at the lowest such list word."
  pub placed : reason ≡ 10 → LowestUnreached t place
  -- "It stands after owner clashes"
  pub owned : reason ≡ 10 → Everywhere owners t
