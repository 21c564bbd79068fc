-- Q-5, of an accepted table: "condition kind 9, 'at or above', for mode ports only: true exactly if the port's value is not below the given
-- one", and "reason 5 then starts at kind 10".
use Rattle.std.specs.Prelude.{◌≡◌, cond, List, ℕ, ◌≤◌, ◌<◌, leb}
use Rattle.rulebook.specs.Table.{ports, expressions, port_kind, port_mode, expression_kind, condition_port, condition_value, condition_at_or_above, rule_expression}
use Rattle.rulebook.specs.Lists.{value_in, result_in}

pub record Levels (t : List ℕ) : Type 0 where
  pub known : (e : ℕ) → e < expressions t → expression_kind t e ≤ condition_at_or_above
  pub of_modes : (e : ℕ) → e < expressions t → expression_kind t e ≡ condition_at_or_above
      → (condition_port t e < ports t) × (port_kind t (condition_port t e) ≡ port_mode)
  -- what a rule on such a condition gives in state s; that its list is chosen by that is `Chosen`'s
  pub gives : (r : ℕ) (s : List ℕ) → let e = rule_expression t r in expression_kind t e ≡ condition_at_or_above
      → result_in t s r ≡ cond (leb (condition_value t e) (value_in s (condition_port t e))) 1 0
