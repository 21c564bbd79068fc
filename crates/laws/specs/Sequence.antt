-- The order in which chosen lists run, and chains of nested names.
use Rattle.std.specs.Prelude.{◌≡◌, true, false, cond, ◌⊎◌, List, [], ◌∷◌, ℕ, zero, suc, ◌+◌, ◌≤◌, ◌<◌, eqb}
use Rattle.rulebook.specs.Table.{left, right, priority, true_list, false_list, no_list, first_item, item_count, item_kind, item_a, item_list, item_rule}
use Rattle.rulebook.specs.Expressions.{operator, is_not}

-- "larger priority first, then lower number": list a runs before list b
abbrev pub Before : List ℕ → ℕ → ℕ → Type 0
Before t a b = (priority t b < priority t a) ⊎ ((priority t a ≡ priority t b) × (a < b))

-- P holds of each member
abbrev pub Each : (ℕ → Type 0) → List ℕ → Type 0
Each P [] = Unit {0}
Each P (x ∷ xs) = P x × Each P xs

-- each member runs before all that stand after it
abbrev pub InOrder : List ℕ → List ℕ → Type 0
InOrder t [] = Unit {0}
InOrder t (x ∷ xs) = Each (Before t x) xs × InOrder t xs

-- how often x stands in a list
unfoldable pub times : ℕ → List ℕ → ℕ
times x [] = 0
times x (y ∷ ys) = cond (eqb x y) 1 0 + times x ys

-- a chain of names: x, and d more after it, each named by the one before
abbrev pub Chain : (ℕ → ℕ → Type 0) → ℕ → ℕ → Type 0
Chain Names zero x = Unit {0}
Chain Names (suc d) x = (y : ℕ) × Names x y × Chain Names d y

-- an operator names its arguments; the right of a NOT is none
abbrev pub NamesExpression : List ℕ → ℕ → ℕ → Type 0
NamesExpression t e x = (operator t e ≡ true) × ((x ≡ left t e) ⊎ ((is_not t e ≡ false) × (x ≡ right t e)))

-- a rule names the lists that it has
abbrev pub RuleNames : List ℕ → ℕ → ℕ → Type 0
RuleNames t r x = (eqb x no_list ≡ false) × ((x ≡ true_list t r) ⊎ (x ≡ false_list t r))

-- a list names a list directly, or by a rule item's lists
pub record NamesList (t : List ℕ) (l x : ℕ) : Type 0 where
  pub item : ℕ
  pub from : first_item t l ≤ item
  pub below : item < first_item t l + item_count t l
  pub how : ((item_kind t item ≡ item_list) × (x ≡ item_a t item)) ⊎ ((item_kind t item ≡ item_rule) × RuleNames t (item_a t item) x)
