-- What the largest counts are, said without the walk that finds them.
use Rattle.std.specs.Prelude.{ℕ, ◌≤◌, ◌<◌, ◌≡◌, List, map, length, get_or}
use Rattle.rulebook.specs.Step.{Result}
use Rattle.visits.specs.declared.Largest.{Largest}
use Rattle.visits.specs.declared.Most.{Most}
use Rattle.visits.specs.Printed.{trace_count, visit_count}

-- of the counts xs of events 0, 1, ..
pub record FirstLargest (xs : List ℕ) (l : Largest) : Type 0 where
  -- no event has more
  pub most : (i : ℕ) → i < length xs → get_or xs i 0 ≤ l.count
  -- where there is an event, the one named is one of them and has so many
  pub inside : 0 < length xs → l.event < length xs
  pub has : 0 < length xs → get_or xs l.event 0 ≡ l.count
  -- every earlier one has fewer
  pub first : (i : ℕ) → i < l.event → get_or xs i 0 < l.count
  -- where there is none, both are 0
  pub none : length xs ≡ 0 → (l.count ≡ 0) × (l.event ≡ 0)

pub record IsMost (rs : List Result) (m : Most) : Type 0 where
  pub events : m.events ≡ length rs
  pub trace : FirstLargest (map trace_count rs) m.trace
  pub visits : FirstLargest (map visit_count rs) m.visits
