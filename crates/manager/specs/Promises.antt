-- What each public entry promises: its input, its answer, and every lent word afterwards. One name an entry, for the contracts and
-- for whoever builds on them; first over document 01's numbers, as `gateway` hands them to C (..In), then over the answer that the
-- numbers are of.
use Rattle.std.specs.Prelude.{◌≡◌, ℕ, ◌%◌, List, ◌++◌, length, drop, Result}
use Rattle.rulebook.specs.Reasons.{bound}
use Rattle.rulebook.specs.State.{state_length}
use Rattle.rulebook.specs.Step.{refused_state, step}
use Rattle.rulebook.specs.Play.{play}
use Rattle.rulebook.specs.Play as rulebook
use Rattle.tables.specs.declared.Fault.{Fault}
use Rattle.tables.specs.Finding.{finding, Says, promised}
use Rattle.states.specs.declared.NotAdmitted.{NotAdmitted}
use Rattle.states.specs.declared.NotMade.{NotMade}
use Rattle.states.specs.Made.{Makes}
use Rattle.states.specs.Made as made
use Rattle.events.specs.Answers.{Answered, number_of, count_of, visits_of, Tells}
use Rattle.manager.specs.declared.Played.{Played}
use Rattle.manager.specs.Answers.{state_number, end_number}

-- `check_table` of table t: the reason, the place and B, 0 where there is none

abbrev pub ChecksTableIn : List ℕ → ℕ → ℕ → ℕ → Type 0
ChecksTableIn t reason place bound = Says (promised t) reason place bound

abbrev pub ChecksTable : List ℕ → Result ℕ Fault → Type 0
ChecksTable t r = ChecksTableIn t (finding r).reason (finding r).place (finding r).bound

-- `state_words` of table t
abbrev pub CountsWords : List ℕ → ℕ → Type 0
CountsWords t n = n ≡ state_length t

-- `make_fresh` of table t in the lent state s: the answer's number k, the state afterwards

abbrev pub MakesFreshIn : List ℕ → List ℕ → ℕ → List ℕ → Type 0
MakesFreshIn t s k s' = Makes t s k s'

abbrev pub MakesFresh : List ℕ → List ℕ → Result (Unit {0}) NotMade → List ℕ → Type 0
MakesFresh t s r s' = MakesFreshIn t s (made.number_of r) s'

-- `check_state` of table t and state s

abbrev pub ChecksStateIn : List ℕ → List ℕ → ℕ → Type 0
ChecksStateIn t s k = k ≡ refused_state t s

abbrev pub ChecksState : List ℕ → List ℕ → Result (Unit {0}) NotAdmitted → Type 0
ChecksState t s r = ChecksStateIn t s (state_number r)

-- `take_event` of table t, state s, the lent trace, the lent outcome words os and the event word e: the answer's number k, the count n and
-- the visits v, state and trace afterwards

abbrev pub TakesEventIn : List ℕ → List ℕ → List ℕ → List ℕ → ℕ → ℕ → ℕ → ℕ → List ℕ → List ℕ → Type 0
TakesEventIn t s trace os e k n v s' trace' = Tells (step t s (length trace) os e) trace k n v s' trace'

abbrev pub TakesEvent : List ℕ → List ℕ → List ℕ → List ℕ → ℕ → Answered → List ℕ → List ℕ → Type 0
TakesEvent t s trace os e r s' trace' = TakesEventIn t s trace os e (number_of r) (count_of r) (visits_of r) s' trace'

-- `play` of table t, state s, the lent trace and the event words es: the number k of what ended it, n events taken, m trace words
-- written and v the visits made, state and trace afterwards. The joined words stand at the front of the trace, and its other words are
-- unchanged. The visits are told in 64 bits, of which nothing is lost unless the play has some 3 * 10 ^ 13 events.

pub record TellsPlay (p : rulebook.Play) (trace : List ℕ) (k n m v : ℕ) (s' trace' : List ℕ) : Type 0 where
  pub answer : k ≡ p.answer
  pub taken : n ≡ p.taken
  pub count : m ≡ length p.words
  pub visits : v ≡ p.visits % 18446744073709551616
  pub state : s' ≡ p.state
  pub words : trace' ≡ p.words ++ drop (length p.words) trace

abbrev pub PlaysIn : List ℕ → List ℕ → List ℕ → List ℕ → ℕ → ℕ → ℕ → ℕ → List ℕ → List ℕ → Type 0
PlaysIn t s trace es k n m v s' trace' = TellsPlay (play t s (length trace) es) trace k n m v s' trace'

abbrev pub Plays : List ℕ → List ℕ → List ℕ → List ℕ → Played → List ℕ → List ℕ → Type 0
Plays t s trace es r s' trace' = PlaysIn t s trace es (end_number r.end) r.taken r.count r.visits s' trace'

-- asked inside, once table and state are checked: b is B
pub record Admitted (t s : List ℕ) (b : ℕ) : Type 0 where
  pub stands : refused_state t s ≡ 0
  pub bound : b ≡ bound t
