-- A test of a number that computes q: what it may answer, by what it promises, is what q says.
use Rattle.std.specs.Prelude.{ℕ, ◌≡◌, Bool}

pub record Computes (answers : ℕ → Bool → Type 0) (q : ℕ → Bool) : Type 0 where
  pub says : (p : ℕ) (yes : Bool) → answers p yes → yes ≡ q p
