-- The rulebook's `condition`, by an expression's word: whether it is a condition's, and what that says where v gives the ports'
-- values.
use Rattle.std.specs.Prelude.{ℕ, Bool, not}
use Rattle.rulebook.specs.Words.{field}
use Rattle.rulebook.specs.Expressions.{operator_kind, met}

abbrev pub condition_word : ℕ → Bool
condition_word w = not (operator_kind (field 0 4 w))

abbrev pub word_met : (ℕ → ℕ) → ℕ → Bool
word_met v w = met (field 0 4 w) (v (field 4 8 w)) (field 12 8 w)
