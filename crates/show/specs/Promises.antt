-- What the functions that take and lay promise: their input, their result, every lent word afterwards, and what then stands at the front of
-- the lent bytes.
use Rattle.std.specs.Prelude.{◌≡◌, ℕ, ◌+◌, ◌*◌, ◌≤◌, true, not, List, length, take}
use Rattle.rulebook.specs.Marked.{same}
use Rattle.rulebook.specs.Step.{refused_state}
use Rattle.session.specs.Printed.{taken}
use Rattle.session.specs.Promises.{traced_by}
use Rattle.panel.specs.Printed.{panel}
use Rattle.panel.specs.Printed as printed
use Rattle.show.specs.declared.follow.Changed.{Changed}

-- event e was taken and wrote n words, which stand at the front of the trace
pub record Took (t : List ℕ) (e : ℕ) (s trace : List ℕ) (n : ℕ) (s' trace' : List ℕ) : Type 0 where
  pub count : n ≡ length (taken t s e).words
  pub state : s' ≡ (taken t s e).state
  pub words : trace' ≡ traced_by t s e trace

-- the most bytes that a panel has: 21 for each of 104 things, 15 for each of 4,096 trace words
abbrev pub most_panel : ℕ
most_panel = 104 * 21 + 4096 * 15

-- an operator, a table and a state that stand, few enough trace words, and room for the panel
pub record Shown (o : ℕ) (t s ws out : List ℕ) : Type 0 where
  pub operator : printed.operator o ≡ true
  pub stands : refused_state t s ≡ 0
  pub few : length ws ≤ 4096
  pub room : most_panel ≤ length out

-- the same, and the panel found has so many bytes
pub record Watched (o : ℕ) (t s ws found : List ℕ) (kept : ℕ) (out : List ℕ) : Type 0 where
  pub shown : Shown o t s ws out
  pub bytes : kept ≤ length found
  pub room : most_panel ≤ length found

-- of an event that found the panel which the first bytes of `found` are, and left this one: whether a line has changed; the panel left
-- stands at the front of both
pub record LaysChange (o : ℕ) (t s ws found : List ℕ) (kept : ℕ) (r : Changed) (found' out' : List ℕ) : Type 0 where
  pub changed : r.changed ≡ not (same (take kept found) (panel o t s ws))
  pub left : take r.kept found' ≡ panel o t s ws
  pub laid : take r.kept out' ≡ panel o t s ws
  -- these follow; here for callers that lend the parts
  pub kept_inside : r.kept ≤ length found'
  pub inside : r.kept ≤ length out'
