-- What making a fresh state promises: its answer in document 01's numbers, and every word of the lent state afterwards.
use Rattle.std.specs.Prelude.{ℕ, ◌≡◌, List, Result, Ok, Err}
use Rattle.rulebook.specs.State.{fresh_answer, fresh_state}
use Rattle.states.specs.declared.NotMade.{NotMade}
use Rattle.states.specs.declared.NotMade.TheVariants.{BadTable, WrongLength}

abbrev pub number_of : Result (Unit {0}) NotMade → ℕ
number_of (Ok u) = 0
number_of (Err BadTable) = 1
number_of (Err WrongLength) = 2

-- the table t, the state s before, the answer's number k, the state after
pub record Makes (t s : List ℕ) (k : ℕ) (after : List ℕ) : Type 0 where
  pub answer : k ≡ fresh_answer t s
  pub state : after ≡ fresh_state t s

abbrev pub Fresh : List ℕ → List ℕ → Result (Unit {0}) NotMade → List ℕ → Type 0
Fresh t s r after = Makes t s (number_of r) after
