-- A window over a long text.
use Rattle.std.specs.Prelude.{ℕ, ◌-◌, ◌≤◌, ◌≡◌, List, length, take, drop}

-- the text's bytes from `at` up to `end` stand in the window
pub record Within (at end : ℕ) (window : List ℕ) : Type 0 where
  pub order : at ≤ end
  pub inside : end ≤ length window

-- those bytes, which are read next
abbrev pub ahead : ℕ → ℕ → List ℕ → List ℕ
ahead at end window = take (end - at) (drop at window)

-- they were moved to the front
pub record Slid (at end : ℕ) (window : List ℕ) (n : ℕ) (window' : List ℕ) : Type 0 where
  pub count : n ≡ end - at
  pub inside : n ≤ length window'
  pub front : take n window' ≡ ahead at end window
