-- "`N events: all as our tables order`" is said of a log exactly if nothing was told of any event; and nothing is told of an event exactly if the
-- supplier's recording is ours, answer, state and trace, whoever wrote it.
use Rattle.std.specs.Prelude.{ℕ, ◌≡◌, List, [], ◌++◌}
use Rattle.rulebook.specs.Step.{Result}
use Rattle.telling.specs.Told.{told_lines}

pub record NothingTold (n e : ℕ) (r : Result) (answer : ℕ) (ws : List ℕ) : Type 0 where
  pub where-ours : (answer ≡ r.answer) × (ws ≡ r.state ++ r.words) → told_lines n e r answer ws ≡ []
  pub only-ours : told_lines n e r answer ws ≡ [] → (answer ≡ r.answer) × (ws ≡ r.state ++ r.words)
