-- What the functions promise: their input, their result, and every lent word and byte afterwards.
use Rattle.std.specs.Prelude.{ℕ, ◌+◌, ◌-◌, ◌*◌, ◌≤◌, ◌<◌, ◌≡◌, cond, List, [], length, take}
use Rattle.rulebook.specs.Reasons.{accepted}
use Rattle.text.specs.Words.{words_of}
use Rattle.text.specs.Puts.{lay, PutAt}
use Rattle.session.specs.Printed.{taken, state_after}
use Rattle.session.specs.Promises.{PutLines, traced_by, trace_after}
use Rattle.visits.specs.declared.Cost.{Cost}
use Rattle.visits.specs.declared.Most.{Most}
use Rattle.visits.specs.declared.Taken.{Taken}
use Rattle.visits.specs.Printed.{results, trace_count, visit_count, cost_line, cost_lines, most_after, most_lines}

-- a number of 64 bits has at most 20 digits, and a byte stands behind it
abbrev pub most_number : ℕ
most_number = 20 + 1

-- the most bytes that an event's line has: four labels, each with its number
abbrev pub most_line : ℕ
most_line = (6 + 7 + 6 + 7) + 4 * most_number

-- the most bytes that a line of the end has behind its first label, and those that both lines have
abbrev pub most_behind : ℕ
most_behind = most_number + (6 + most_number) + (6 + most_number)

abbrev pub most_end : ℕ
most_end = (11 + most_behind) + (12 + most_behind)

-- bytes laid at a place, at most so many
pub record PutFew (most : ℕ) (xs out : List ℕ) (at next : ℕ) (after : List ℕ) : Type 0 where
  pub put : PutAt xs out at next after
  pub few : next ≤ at + most

-- event e with number i was taken, c is what it cost, and its line stands at `at`
pub record TookOne (t : List ℕ) (e i : ℕ) (s trace out : List ℕ) (at : ℕ) (c : Cost) (s' trace' out' : List ℕ) : Type 0 where
  pub written : c.trace ≡ trace_count (taken t s e)
  pub visited : c.visits ≡ visit_count (taken t s e)
  pub state : s' ≡ (taken t s e).state
  pub words : trace' ≡ traced_by t s e trace
  pub line : PutFew most_line (cost_line i (taken t s e).answer (trace_count (taken t s e)) (visit_count (taken t s e))) out at c.next out'

-- every event from the `from`-th word of these bytes on still has a number of 64 bits
pub record Countable (m : Most) (bytes : List ℕ) (from : ℕ) : Type 0 where
  pub fits : m.events + (length (words_of bytes) - from) < 18446744073709551616

-- The first r .events of es were taken, from m on: each of them while `most_line` bytes were free behind the lines before it, and no more
-- only because none was left or fewer bytes were free. Their lines stand at the front of `out`, whose other bytes are as they were.
pub record TookEvents (t s trace es : List ℕ) (m : Most) (out : List ℕ) (r : Taken) (s' trace' out' : List ℕ) : Type 0 where
  pub within : r.events ≤ length es
  pub free : (k : ℕ) → k < r.events → length (cost_lines m.events (results t s (take k es))) + most_line ≤ length out
  pub full : r.events < length es → length out < length (cost_lines m.events (results t s (take r.events es))) + most_line
  pub bytes : r.bytes ≡ length (cost_lines m.events (results t s (take r.events es)))
  pub most : r.most ≡ most_after m (results t s (take r.events es))
  pub state : s' ≡ state_after t s (take r.events es)
  pub words : trace' ≡ trace_after t s (take r.events es) trace
  pub lines : out' ≡ lay out 0 (cost_lines m.events (results t s (take r.events es)))
  -- follows; here for a caller that writes them
  pub inside : r.bytes ≤ length out

-- `lay_most` of table t and the largest counts m: a table with a reason has no such lines
abbrev pub LaysMost : List ℕ → Most → List ℕ → ℕ → List ℕ → Type 0
LaysMost t m out n out' = PutLines most_end (cond (accepted t) (most_lines t m) []) out n out'
