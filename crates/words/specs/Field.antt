-- A field that was read: its value, and the bound that its width gives. It is read by a unit and a size, neither of them 0.
use Rattle.std.specs.Prelude.{ℕ, ◌<◌, ◌^◌, ◌≡◌, Bool, cond}
use Rattle.rulebook.specs.Words.{digit, field}

pub record Field (v size r : ℕ) : Type 0 where
  pub value : r ≡ v
  pub small : r < size

pub record Sized (unit size : ℕ) : Type 0 where
  pub some-unit : 0 < unit
  pub some_size : 0 < size

-- An item's abort and a, by whether the edition is 2 and by the word, as the rulebook reads them by table and number.

abbrev pub abort_by : Bool → ℕ → ℕ
abort_by second w = cond second (field 4 1 w) 0

abbrev pub a_by : Bool → ℕ → ℕ
a_by second w = digit (2 ^ 16) (cond second (2 ^ 11) (2 ^ 12)) w
