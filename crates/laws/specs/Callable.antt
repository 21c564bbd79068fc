-- What answers 1 to 3 let through: a table, a state and so many trace words lent.
use Rattle.std.specs.Prelude.{◌≡◌, true, List, ℕ, ◌≤◌}
use Rattle.rulebook.specs.Reasons.{accepted, bound}
use Rattle.rulebook.specs.State.{fits}

pub record Callable (t s : List ℕ) (room : ℕ) : Type 0 where
  pub table : accepted t ≡ true
  pub state : fits t s ≡ true
  pub enough : bound t ≤ room
