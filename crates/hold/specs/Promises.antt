-- What `hold` and `part` promise: their input, their result, and every lent word afterwards; first over numbers, as `gateway` hands them to C
-- (..In), then over the verdict that the numbers are of.
use Rattle.std.specs.Prelude.{ℕ, ◌≡◌, cond, ◌||◌, List, [], ◌++◌, length, take, drop, eqb}
use Rattle.rulebook.specs.Step.{step}
use Rattle.rulebook.specs.Hold.{parting, held_states, held_against, as_ordered, refused, traces_part, theirs_stops, ours_stops, states_part}
use Rattle.rulebook.specs.Hold as rulebook
use Rattle.hold.specs.declared.Verdict.{Verdict}
use Rattle.hold.specs.declared.Verdict.TheVariants.{AsOrdered, Refused, TracesPart, TheirsStops, OursStops, StatesPart}
use Rattle.hold.specs.declared.Held.{Held}

-- The verdicts in the rulebook's numbers, and the number that each gives.

abbrev pub number_of : Verdict → ℕ
number_of AsOrdered = as_ordered
number_of (Refused answer) = refused
number_of (TracesPart k) = traces_part
number_of (TheirsStops k) = theirs_stops
number_of (OursStops k) = ours_stops
number_of (StatesPart k) = states_part

abbrev pub given_by : Verdict → ℕ
given_by AsOrdered = 0
given_by (Refused answer) = answer
given_by (TracesPart k) = k
given_by (TheirsStops k) = k
given_by (OursStops k) = k
given_by (StatesPart k) = k

-- the numbers v and k tell x, but for its part
pub record TellsVerdictIn (x : rulebook.Held) (v k : ℕ) : Type 0 where
  pub verdict : v ≡ x.verdict
  pub number : k ≡ x.number

abbrev pub TellsVerdict : rulebook.Held → Verdict → Type 0
TellsVerdict x r = TellsVerdictIn x (number_of r) (given_by r)

abbrev pub TellsStates : List ℕ → List ℕ → Verdict → Type 0
TellsStates ours theirs r = TellsVerdict (held_states (parting ours theirs) ours theirs) r

-- `hold` of table t, state s, the lent trace, the outcomes os, the event word e and the supplier's trace and state: the verdict's number v and
-- the number k that it gives, our step's count n and visits m, state and trace afterwards. "The state and our trace end as after an event call";
-- "the supplier's words stay", for they are lent to be read alone.
pub record HoldsIn (t s trace os : List ℕ) (e : ℕ) (theirs their_state : List ℕ) (v k n m : ℕ) (s' trace' : List ℕ) : Type 0 where
  pub tells : TellsVerdictIn (held_against t s (length trace) os e theirs their_state) v k
  pub count : n ≡ length (step t s (length trace) os e).words
  pub visits : m ≡ (step t s (length trace) os e).visits
  pub state : s' ≡ (step t s (length trace) os e).state
  pub words : trace' ≡ (step t s (length trace) os e).words ++ drop (length (step t s (length trace) os e).words) trace

abbrev pub Holds : List ℕ → List ℕ → List ℕ → List ℕ → ℕ → List ℕ → List ℕ → Held → List ℕ → List ℕ → Type 0
Holds t s trace os e theirs their_state r s' trace' =
    HoldsIn t s trace os e theirs their_state (number_of r.verdict) (given_by r.verdict) r.count r.visits s' trace'

-- `part` for a verdict's number v, the number k that it gives and our count n: which of the two recordings, and from where. The first n words
-- of the trace are our recording.
abbrev pub part_of : ℕ → ℕ → ℕ → List ℕ → List ℕ → List ℕ
part_of v k n trace theirs =
    cond (eqb v traces_part || eqb v ours_stops) (drop k theirs) (cond (eqb v theirs_stops) (drop k (take n trace)) [])

abbrev pub HandsBack : Held → List ℕ → List ℕ → List ℕ → Type 0
HandsBack h trace theirs p = p ≡ part_of (number_of h.verdict) (given_by h.verdict) h.count trace theirs

-- as `gateway` hands it to C, where no slice comes back: `left` is the part's length; whose words it is and from which on, v and k say
pub record HoldsForC (t s trace os : List ℕ) (e : ℕ) (theirs their_state : List ℕ) (v k left n m : ℕ) (s' trace' : List ℕ) : Type 0 where
  pub holds : HoldsIn t s trace os e theirs their_state v k n m s' trace'
  pub rest : left ≡ length (held_against t s (length trace) os e theirs their_state).part
