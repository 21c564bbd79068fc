-- What the functions of a session promise.
use Rattle.std.specs.Prelude.{ℕ, ◌+◌, ◌≤◌, ◌<◌, ◌≡◌, true, false, cond, Result, Ok, Err, List, [], ◌∷◌, ◌++◌, length, take, drop, leb, eqb}
use Rattle.rulebook.specs.Reasons.{check, accepted, bound}
use Rattle.rulebook.specs.State.{state_length}
use Rattle.rulebook.specs.Step.{refused_call}
use Rattle.laws.specs.Callable.{Callable}
use Rattle.text.specs.Words.{words_of}
use Rattle.text.specs.Puts.{lay, PutAt}
use Rattle.session.specs.declared.Opening.{Opening}
use Rattle.session.specs.declared.Refused.{Refused}
use Rattle.session.specs.declared.Taken.{Taken}
use Rattle.session.specs.Printed.{taken, event_lines, run_lines, state_after, most}

-- the sizes that a session with an accepted table asks for
pub record Stands (t : List ℕ) (r : Opening) : Type 0 where
  pub accepted : accepted t ≡ true
  pub state : r.state ≡ state_length t
  pub trace : r.trace ≡ bound t
  -- these two follow; here for a caller that cuts the state and the trace from arrays
  pub small_state : r.state ≤ 360
  pub small_trace : r.trace ≤ 4096

-- the reason of another table, and its place
pub record IsRefused (t : List ℕ) (r : Refused) : Type 0 where
  pub reason : r.reason ≡ (check t).reason
  pub place : r.place ≡ (check t).place
  pub refused : accepted t ≡ false

-- a table's check, and the sizes that a session with it asks for
abbrev pub Opens : List ℕ → Result Opening Refused → Type 0
Opens t (Ok r) = Stands t r
Opens t (Err r) = IsRefused t r

-- lines laid at the front where `room` bytes are lent, and nothing where fewer are
pub record PutLines (room : ℕ) (xs out : List ℕ) (n : ℕ) (after : List ℕ) : Type 0 where
  pub count : n ≡ cond (leb room (length out)) (length xs) 0
  pub bytes : after ≡ cond (leb room (length out)) (lay out 0 xs) out
  -- follows where `room` is enough; here for a caller that writes them
  pub inside : n ≤ length out

-- answers 1 to 3 refuse nothing
abbrev pub Ready : List ℕ → List ℕ → List ℕ → Type 0
Ready t s trace = Callable t s (length trace)

-- the words of an event stand at the front of the trace, the others are as they were
abbrev pub traced_by : List ℕ → List ℕ → ℕ → List ℕ → List ℕ
traced_by t s e trace = (taken t s e).words ++ drop (length (taken t s e).words) trace

unfoldable pub trace_after : List ℕ → List ℕ → List ℕ → List ℕ → List ℕ
trace_after t s [] trace = trace
trace_after t s (e ∷ es) trace = trace_after t (taken t s e).state es (traced_by t s e trace)

-- one event e was taken and its lines stand at `at`
pub record TookOne (t : List ℕ) (e : ℕ) (s trace out : List ℕ) (at next : ℕ) (s' trace' out' : List ℕ) : Type 0 where
  pub state : s' ≡ (taken t s e).state
  pub words : trace' ≡ traced_by t s e trace
  pub lines : PutAt (event_lines t s e) out at next out'

-- the events from a word of the bytes on; none where answers 1 to 3 refuse table, state or room
unfoldable pub offered : List ℕ → List ℕ → ℕ → List ℕ → ℕ → List ℕ
offered t s room bytes from = cond (eqb (refused_call t s room) 0) (drop from (words_of bytes)) []

-- The first r .events of es were taken: each of them while `most` bytes were free behind the lines before it, and no more only
-- because none was left or fewer bytes were free. Their lines stand at the front of `out`, whose other bytes are as they were.
pub record TookEvents (t s trace es out : List ℕ) (r : Taken) (s' trace' out' : List ℕ) : Type 0 where
  pub within : r.events ≤ length es
  pub free : (k : ℕ) → k < r.events → length (run_lines t s (take k es)) + most ≤ length out
  pub full : r.events < length es → length out < length (run_lines t s (take r.events es)) + most
  pub bytes : r.bytes ≡ length (run_lines t s (take r.events es))
  pub state : s' ≡ state_after t s (take r.events es)
  pub words : trace' ≡ trace_after t s (take r.events es) trace
  pub lines : out' ≡ lay out 0 (run_lines t s (take r.events es))
  -- follows; here for a caller that writes them
  pub inside : r.bytes ≤ length out
