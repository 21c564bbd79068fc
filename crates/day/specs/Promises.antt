-- What the functions of a day promise: their input, their result, and every lent word and byte afterwards.
use Rattle.std.specs.Prelude.{ℕ, ◌+◌, ◌*◌, ◌/◌, ◌≤◌, min, ◌≡◌, Bool, cond, ◌&&◌, List, [], ◌++◌, length, drop, leb, eqb}
use Rattle.rulebook.specs.State.{state_length}
use Rattle.rulebook.specs.Play.{Play, play}
use Rattle.text.specs.Puts.{lay}
use Rattle.session.specs.Promises.{PutLines}
use Rattle.day.specs.declared.Part.{Part}
use Rattle.day.specs.Printed.{trace_lines, state_lines, end_lines, in64}

-- as many of the lent trace words as have lines that fit the lent bytes
abbrev pub room_of : List ℕ → List ℕ → ℕ
room_of trace out = min (length trace) (length out / 15)

-- play p told: its words stand at the front of the trace and their lines at the front of `out`; all else there is as it was
pub record TellsPart (p : Play) (trace out : List ℕ) (r : Part) (s' trace' out' : List ℕ) : Type 0 where
  pub taken : r.taken ≡ p.taken
  pub visits : r.visits ≡ in64 p.visits
  pub number : r.number ≡ p.answer
  pub bytes : r.bytes ≡ length (trace_lines p.words)
  pub state : s' ≡ p.state
  pub words : trace' ≡ p.words ++ drop (length p.words) trace
  pub lines : out' ≡ lay out 0 (trace_lines p.words)
  -- follows; here for a caller that writes them
  pub inside : r.bytes ≤ length out

-- `play_part` of table t, state s and the event words es, in the lent trace and bytes
abbrev pub PlaysPart : List ℕ → List ℕ → List ℕ → List ℕ → List ℕ → Part → List ℕ → List ℕ → List ℕ → Type 0
PlaysPart t s trace es out r s' trace' out' = TellsPart (play t s (room_of trace out) es) trace out r s' trace' out'

-- the most words that the state of an accepted table has
abbrev pub most_words : ℕ
most_words = 360

-- the most bytes that a state prints: for each word `network `, three digits and a space, eight hex digits and a newline
abbrev pub most_state : ℕ
most_state = most_words * (8 + 3 + 1 + 8 + 1)

-- the most bytes that the end prints: `taken `, 20 digits and a newline, `visits `, 20 digits and a newline, `answer `, ten digits and a
-- newline
abbrev pub most_end : ℕ
most_end = (6 + 20 + 1) + (7 + 20 + 1) + (7 + 10 + 1)

-- the state has the table's length, and no more words than any accepted table's
unfoldable pub shown : List ℕ → List ℕ → Bool
shown t s = eqb (length s) (state_length t) && leb (length s) most_words

-- `lay_state` of table t and state s: a state that is not shown has no lines
abbrev pub LaysState : List ℕ → List ℕ → List ℕ → ℕ → List ℕ → Type 0
LaysState t s out n out' = PutLines most_state (cond (shown t s) (state_lines t s) []) out n out'

-- `lay_end`
abbrev pub LaysEnd : ℕ → ℕ → ℕ → List ℕ → ℕ → List ℕ → Type 0
LaysEnd taken visits number out n out' = PutLines most_end (end_lines taken visits number) out n out'
